-- Leaders appended to the list, run by run, and the list's entries from one on. Assumes nothing.
use mathlib.Core.Path.{◌≡◌, refl, sym, ap, ap₂, ◌∙◌}
use mathlib.Core.Bool.{true}
use mathlib.Core.Logic.{◌⊎◌, inl, inr, ⊎_elim}
use mathlib.Core.List.{List, [], ◌∷◌, ◌++◌}
use Prim.Native.Nat.{ℕ, zero, suc, ◌+◌, ◌-◌, ◌≤◌, ◌<◌}
use native.Mathlib.Nat.{eq-or-lt_of_le}
use native.Mathlib.Nat.{mod-le}
use native.Mathlib.Numerals.{add-one}
use native.Mathlib.Omega.{arith}
use lib.Dec.{eqb, leb}
use lib.ListN.{length, get_or, set, length-append}
use lib.Seq.{get_or-set_same, get_or-set_other}
use borrow.Author.Tests.{eq-eqb, leb-true, leb-false}
use Rattle.record.specs.Members.{leader_at, most_leaders, rounds, voted_rounds}
use Rattle.record.proofs.Booleans.{which, or_left, or_right}
use Rattle.protocol.specs.Chain.{leader_id, seats}
use Rattle.protocol.specs.Journal.{among}
use Rattle.protocol.proofs.Chain.{seats_none, seats_more}
use Rattle.protocol.proofs.Laws.{seats_length}
use Rattle.replica.specs.Layout.{state_size, leaders_at, leaders_size, leader_count_at}
use Rattle.replica.specs.State.{member_count, leader_count, leader_word}
use Rattle.commits.specs.Commit.{append_leader, append_leaders}
use Rattle.commits.specs.Taken.{taken_of, gather}
use Rattle.commits.specs.Standing.{LeaderRoom, RunsReady, entries}
use Rattle.commits.proofs.Steps.{append_none, append_more, append_size, append_members, append_count}
use Rattle.commits.proofs.Running.{gather_none, gather_above}

-- a leader of the 32 rounds is a small number
pub leader_at_small : (n r i : ℕ) → r ≤ rounds → i < most_leaders → leader_at n r i < 64
unfolding leader_at
leader_at_small n r i l k = omega (arith, mod-le (r - 1 + i) n)

-- ---- many leaders

pub append_append : (l xs ys : List ℕ) → append_leaders (append_leaders l xs) ys ≡ append_leaders l (xs ++ ys)
unfolding append_leaders
append_append l [] ys = refl
append_append l (x ∷ xs) ys = append_append (append_leader l x) xs ys

pub appends_size : (xs l : List ℕ) → length (append_leaders l xs) ≡ length l
unfolding append_leaders
appends_size [] l = refl
appends_size (x ∷ xs) l = appends_size xs (append_leader l x) ∙ append_size l x

pub appends_members : (xs l : List ℕ) → member_count (append_leaders l xs) ≡ member_count l
unfolding append_leaders
appends_members [] l = refl
appends_members (x ∷ xs) l = appends_members xs (append_leader l x) ∙ append_members l x

pub appends_count : (xs l : List ℕ) → length l ≡ state_size → leader_count (append_leaders l xs) ≡ leader_count l + length xs
unfolding append_leaders
appends_count [] l s = omega arith
appends_count (x ∷ xs) l s = omega (arith, appends_count xs (append_leader l x) (append_size l x ∙ s), append_count l x s)

-- the new entry, and the old ones
pub append_here : (l : List ℕ) (x : ℕ) → length l ≡ state_size → leader_count l < leaders_size → leader_word (append_leader l x) (leader_count l) ≡ x
unfolding append_leader
append_here l x s h =
    get_or-set_other (set l (leaders_at + leader_count l) x) leader_count_at (leaders_at + leader_count l) (leader_count l + 1) 0 (λ e. omega arith)
    ∙ get_or-set_same l (leaders_at + leader_count l) x 0 (omega arith)

append_old : (l : List ℕ) (x j : ℕ) → j < leader_count l → leader_word (append_leader l x) j ≡ leader_word l j
unfolding append_leader
append_old l x j h =
    get_or-set_other (set l (leaders_at + leader_count l) x) leader_count_at (leaders_at + j) (leader_count l + 1) 0 (λ e. omega arith)
    ∙ get_or-set_other l (leaders_at + leader_count l) (leaders_at + j) x 0 (λ e. omega arith)

pub appends_old : (xs l : List ℕ) (j : ℕ) → length l ≡ state_size → j < leader_count l → leader_word (append_leaders l xs) j ≡ leader_word l j
unfolding append_leaders
appends_old [] l j s h = refl
appends_old (x ∷ xs) l j s h = appends_old xs (append_leader l x) j (append_size l x ∙ s) (omega (arith, append_count l x s)) ∙ append_old l x j h

-- ---- a run

-- how many there are from a on, below b
pub seats_size : (n r a b : ℕ) → length (seats n r a b) ≡ b - a
seats_size n r a b = ⊎_elim
    (λ e. omega (arith, seats_length n 1 (λ s p. []) r a b (leb-true a b e), leb-true a b e))
    (λ e. rw (seats_none n r a b (omega (arith, leb-false a b e))) (omega (arith, leb-false a b e)))
    (which (leb a b))

-- leaders a, .. i - 1 of round r have been appended
pub record RunAppending (n r a b : ℕ) (l₀ : List ℕ) (i : ℕ) (l : List ℕ) : Type 0 where
  pub room : LeaderRoom l (b - i)
  pub high : (i ≤ b) ⊎ (i ≡ a)
  pub same : length l ≡ length l₀
  pub is : l ≡ append_leaders l₀ (seats n r a i)

pub run_start : (n r a b : ℕ) (l : List ℕ) → LeaderRoom l (b - a) → RunAppending n r a b l a l
run_start n r a b l R = record {
  room = R;
  high = inr refl;
  same = refl;
  is = append_none l ∙ ap (append_leaders l) (sym (seats_none n r a a (omega arith)));
}

pub run_next : (n r a b : ℕ) (l₀ : List ℕ) (i : ℕ) (l m : List ℕ) → RunAppending n r a b l₀ i l → a ≤ i → i < b
    → m ≡ append_leader l (leader_id n r i) → RunAppending n r a b l₀ (i + 1) m
run_next n r a b l₀ i l m R low h d = rw d (record {
  room = record {
    size = append_size l (leader_id n r i) ∙ R.room.size;
    room = omega (arith, R.room.room, append_count l (leader_id n r i) R.room.size);
  };
  high = inl (omega arith);
  same = append_size l (leader_id n r i) ∙ R.same;
  is = ap (λ (x : List ℕ). append_leader x (leader_id n r i)) R.is ∙ append_more l₀ (seats n r a i) (leader_id n r i)
      ∙ ap (append_leaders l₀) (sym (ap (seats n r a) (add-one i) ∙ seats_more n r a i low));
})

pub run_end : (n r a b : ℕ) (l₀ : List ℕ) (i : ℕ) (l : List ℕ) → RunAppending n r a b l₀ i l → b ≤ i → l ≡ append_leaders l₀ (seats n r a b)
run_end n r a b l₀ i l R h = R.is ∙ ap (append_leaders l₀) (⊎_elim
    (λ k. ap (seats n r a) (omega arith))
    (λ k. seats_none n r a i (omega arith) ∙ sym (seats_none n r a b (omega arith)))
    R.high)

-- ---- all runs

gather_more : (n c a : ℕ) (runs : List ℕ) (r : ℕ) → gather n c a runs (suc r) ≡ gather n c a runs r ++ seats n r (taken_of r c a) (get_or runs r 0)
unfolding gather
gather_more n c a runs r = refl

gather_grows : (n c a : ℕ) (runs : List ℕ) (r k : ℕ) → length (gather n c a runs r) ≤ length (gather n c a runs (k + r))
gather_grows n c a runs r zero = let z : 0 + r ≡ r = omega arith in rw z (omega arith)
gather_grows n c a runs r (suc k) =
    let z : suc k + r ≡ suc (k + r) = omega arith in
    rw z (omega (
      arith,
      gather_grows n c a runs r k,
      ap length (gather_more n c a runs (k + r)),
      length-append (gather n c a runs (k + r)) (seats n (k + r) (taken_of (k + r) c a) (get_or runs (k + r) 0)),
    ))

-- the leaders of the rounds below r have been appended
pub record Appending (n c a : ℕ) (runs l₀ : List ℕ) (r : ℕ) (l : List ℕ) : Type 0 where
  pub size : length l ≡ state_size
  pub same : length l ≡ length l₀
  pub members : n ≡ member_count l
  pub count : leader_count l ≡ leader_count l₀ + length (gather n c a runs r)
  pub is : l ≡ append_leaders l₀ (gather n c a runs r)

module _ (n c a q : ℕ) (runs l₀ : List ℕ) (G : RunsReady l₀ n c a q runs) where
  pub appending_start : Appending n c a runs l₀ c l₀
  appending_start =
      let e : gather n c a runs c ≡ [] = gather_none n c a runs c G.below in
      record {
        size = G.room.size;
        same = refl;
        members = G.members;
        count = rw e (omega arith);
        is = append_none l₀ ∙ ap (append_leaders l₀) (sym e);
      }

  -- the next run finds room
  pub appending_room : (r x : ℕ) (l : List ℕ) → Appending n c a runs l₀ r l → r < rounds → x ≡ taken_of r c a
      → LeaderRoom l (get_or runs r 0 - x) × (get_or runs r 0 ≤ most_leaders)
  appending_room r x l A h ex =
      let d : (voted_rounds - r) + suc r ≡ rounds = omega arith in
      let up : length (gather n c a runs (suc r)) ≤ length (gather n c a runs rounds) = rw d at (gather_grows n c a runs (suc r) (voted_rounds - r)) in
      rw ex (
        record {
          size = A.size;
          room = omega (
            arith,
            A.count,
            G.room.room,
            up,
            ap length (gather_more n c a runs r),
            length-append (gather n c a runs r) (seats n r (taken_of r c a) (get_or runs r 0)),
            seats_size n r (taken_of r c a) (get_or runs r 0),
          );
        },
        G.few r,
      )

  pub appending_next : (r x : ℕ) (l m : List ℕ) → Appending n c a runs l₀ r l → x ≡ taken_of r c a
      → m ≡ append_leaders l (seats n r x (get_or runs r 0)) → Appending n c a runs l₀ (r + 1) m
  appending_next r x l m A ex d =
      let new = seats n r (taken_of r c a) (get_or runs r 0) in
      let e : m ≡ append_leaders l new = rw ex at d in
      let more : gather n c a runs (r + 1) ≡ gather n c a runs r ++ new = ap (gather n c a runs) (add-one r) ∙ gather_more n c a runs r in
      rw e (record {
        size = appends_size new l ∙ A.size;
        same = appends_size new l ∙ A.same;
        members = A.members ∙ sym (appends_members new l);
        count = omega (arith, A.count, appends_count new l A.size, length-append (gather n c a runs r) new, ap length more);
        is = ap (λ (z : List ℕ). append_leaders z new) A.is ∙ append_append l₀ (gather n c a runs r) new ∙ ap (append_leaders l₀) (sym more);
      })

  -- above round q there is nothing to append
  pub appending_end : (r : ℕ) (l : List ℕ) → r ≡ q + 1 → Appending n c a runs l₀ r l → l ≡ append_leaders l₀ (gather n c a runs rounds)
  appending_end r l e A =
      let d : (rounds - r) + r ≡ rounds = omega (arith, G.high) in
      A.is ∙ ap (append_leaders l₀) (sym (gather_above n c a runs r (rounds - r) (λ t k. G.above t (omega arith))) ∙ ap (gather n c a runs) d)

-- ---- the entries from one on

pub entries_none : (l : List ℕ) (i k : ℕ) → k ≡ 0 → entries l i k ≡ []
unfolding entries
entries_none l i k e = rw e

pub entries_more : (l : List ℕ) (i k : ℕ) → entries l i (suc k) ≡ leader_word l i ∷ entries l (i + 1) k
unfolding entries
entries_more l i k = refl

-- of words that are the same
pub entries_cong : (l m : List ℕ) (i k : ℕ) → ((j : ℕ) → leader_word m j ≡ leader_word l j) → entries m i k ≡ entries l i k
unfolding entries
entries_cong l m i zero h = refl
entries_cong l m i (suc k) h = ap₂ (λ (x : ℕ) (xs : List ℕ). x ∷ xs) (h i) (entries_cong l m (i + 1) k h)

pub entries_among : (l : List ℕ) (i k j : ℕ) → i ≤ j → j < i + k → among (entries l i k) (leader_word l j) ≡ true
unfolding entries among
entries_among l i zero j a b = absurd (omega arith)
entries_among l i (suc k) j a b = go (eq-or-lt_of_le a) (entries_among l (i + 1) k j)
  where
    go : (i ≡ j) ⊎ (i < j) → (i + 1 ≤ j → j < i + 1 + k → among (entries l (i + 1) k) (leader_word l j) ≡ true)
        → among (entries l i (suc k)) (leader_word l j) ≡ true
    go (inl e) ih = or_left _ (eq-eqb (leader_word l i) (leader_word l j) (ap (leader_word l) e))
    go (inr h) ih = or_right (eqb (leader_word l i) (leader_word l j)) (ih (omega arith) (omega arith))

-- the entries behind those that were there are those appended
pub entries_new : (xs l : List ℕ) → length l ≡ state_size → leader_count l + length xs ≤ leaders_size
    → entries (append_leaders l xs) (leader_count l) (length xs) ≡ xs
unfolding entries append_leaders
entries_new [] l s h = refl
entries_new (x ∷ xs) l s h =
    let e = append_count l x s in
    ap₂ (λ (y : ℕ) (ys : List ℕ). y ∷ ys)
    (appends_old xs (append_leader l x) (leader_count l) (append_size l x ∙ s) (omega arith) ∙ append_here l x s (omega arith))
    (ap (λ (i : ℕ). entries (append_leaders (append_leader l x) xs) i (length xs)) (sym e)
    ∙ entries_new xs (append_leader l x) (append_size l x ∙ s) (omega arith))

-- the last one
pub appends_last : (xs l : List ℕ) (x : ℕ) → length l ≡ state_size → leader_count l + length xs < leaders_size
    → leader_word (append_leaders l (xs ++ x ∷ [])) (leader_count l + length xs) ≡ x
appends_last xs l x s h =
    let e = appends_count xs l s in
    rw (← append_more l xs x, ← e) (append_here (append_leaders l xs) x (appends_size xs l ∙ s) (omega arith))
