-- Laws of a state's words: ids, masks and the two lists. Assumes nothing.
use mathlib.Core.Path.{◌≡◌, refl, sym, ap, ◌∙◌}
use mathlib.Core.Bool.{Bool, true, false, ◌&&◌, ◌||◌, false≢true}
use mathlib.Core.List.{List, [], ◌∷◌, ◌++◌}
use mathlib.Core.Logic.{◌⊎◌, inl, inr}
use Prim.Native.Nat.{ℕ, zero, suc, ◌+◌, ◌-◌, ◌^◌, ◌≤◌, ◌<◌}
use native.Mathlib.Nat.{le_refl, lt_of_lt_of_le}
use native.Mathlib.Numerals.{add-one}
use native.Mathlib.Omega.{arith}
use lib.Dec.{eqb}
use lib.ListN.{length, get_or, set, take, drop, length-drop}
use lib.Pow.{pow_mono}
use lib.Seq.{take-suc, take-take, length-take-le, get_or-take, get_or-drop}
use borrow.Author.Tests.{eqb-true, eq-eqb}
use Rattle.record.specs.Members.{legal, has, within, with, id_of, rounds, slots}
use Rattle.record.specs.declared.members.Members.{Members}
use Rattle.record.proofs.Booleans.{and_left, and_right, or_left, or_right, or_cases}
use Rattle.record.proofs.Below.{all_elim}
use Rattle.record.proofs.Masks.{within_lt, legal_range}
use Rattle.protocol.specs.Journal.{among}
use Rattle.replica.specs.State.{member_count, leader_count, journal_count, held_mask, heard_mask, votes_mask, timeouts_mask, no_votes_mask, ordered_mask}
use Rattle.replica.specs.State.{add_member, journal_word, leader_list, journal_list, held_id, ordered_id}
use Rattle.replica.specs.WellFormed.{each_round, masks_within}
use Rattle.record.proofs.Rounds.{round_in, id_round_lem, id_member_lem}
use Rattle.replica.specs.Layout.{state_size, leaders_at, leaders_size, journal_at, journal_size}
use Rattle.protocol.proofs.Lists.{among_one}

-- ---- ids

-- the tests of an id, by its round and member
pub held_id_lem : (l : List ℕ) (r p : ℕ) → 1 ≤ r → r ≤ rounds → p < slots → held_id l (id_of r p) ≡ has (held_mask l r) p
held_id_lem l r p a b h = rw (id_round_lem r p h, id_member_lem r p h, round_in r a b)

pub ordered_id_lem : (l : List ℕ) (r p : ℕ) → 1 ≤ r → r ≤ rounds → p < slots → ordered_id l (id_of r p) ≡ has (ordered_mask l r) p
ordered_id_lem l r p a b h = rw (id_round_lem r p h, id_member_lem r p h, round_in r a b)

-- ---- masks

-- the word with the member added
pub member_added : (l : List ℕ) (at p : ℕ) (m : Members) → m ≡ with (record { bits = get_or l at 0 }) p → set l at m.bits ≡ add_member l at p
unfolding add_member
member_added l at p m e = rw e

-- the masks of a round, below 2 ^ n
pub record Small (n : ℕ) (l : List ℕ) (r : ℕ) : Type 0 where
  pub held : held_mask l r < 2 ^ n
  pub heard : heard_mask l r < 2 ^ n
  pub votes : votes_mask l r < 2 ^ n
  pub timeouts : timeouts_mask l r < 2 ^ n
  pub no_votes : no_votes_mask l r < 2 ^ n
  pub ordered : ordered_mask l r < 2 ^ n

pub masks_small : (l : List ℕ) (r : ℕ) → masks_within l r ≡ true → Small (member_count l) l r
unfolding masks_within
masks_small l r e =
    let n : ℕ = member_count l in
    let e₁
    : (within n (heard_mask l r)
    && (within n (votes_mask l r) && (within n (timeouts_mask l r) && (within n (no_votes_mask l r) && within n (ordered_mask l r)))))
    ≡ true = and_right (within n (held_mask l r)) _ e in
    let e₂ : (within n (votes_mask l r) && (within n (timeouts_mask l r) && (within n (no_votes_mask l r) && within n (ordered_mask l r))))
    ≡ true = and_right (within n (heard_mask l r)) _ e₁ in
    let e₃ : (within n (timeouts_mask l r) && (within n (no_votes_mask l r) && within n (ordered_mask l r))) ≡ true = and_right
    (within n (votes_mask l r)) _ e₂ in
    let e₄ : (within n (no_votes_mask l r) && within n (ordered_mask l r)) ≡ true = and_right (within n (timeouts_mask l r)) _ e₃ in
    record {
      held = within_lt n (held_mask l r) (and_left _ _ e);
      heard = within_lt n (heard_mask l r) (and_left _ _ e₁);
      votes = within_lt n (votes_mask l r) (and_left _ _ e₂);
      timeouts = within_lt n (timeouts_mask l r) (and_left _ _ e₃);
      no_votes = within_lt n (no_votes_mask l r) (and_left _ _ e₄);
      ordered = within_lt n (ordered_mask l r) (and_right (within n (no_votes_mask l r)) _ e₄);
    }

-- what holds of each round, of round r
pub round_elim : (t : ℕ → Bool) → each_round t ≡ true → (r : ℕ) → 1 ≤ r → r ≤ rounds → t r ≡ true
round_elim t e r a b =
    let same : (r - 1) + 1 ≡ r = omega arith in
    let low : r - 1 < rounds = omega arith in
    rw same at (all_elim rounds (λ k. t (k + 1)) e (r - 1) low)

pub legal_pow : (n m : ℕ) → legal n ≡ true → m < 2 ^ n → m < 2 ^ slots
legal_pow n m e l = let g = legal_range n e in lt_of_lt_of_le l (pow_mono {i = n} {j = slots} g.high)

-- ---- the lists

pub leader_length : (l : List ℕ) → length l ≡ state_size → leader_count l ≤ leaders_size → length (leader_list l) ≡ leader_count l
leader_length l e h = length-take-le (leader_count l) (drop leaders_at l) (omega (arith, length-drop leaders_at l))

pub journal_length : (l : List ℕ) → length l ≡ state_size → journal_count l ≤ journal_size → length (journal_list l) ≡ journal_count l
journal_length l e h = length-take-le (journal_count l) (drop journal_at l) (omega (arith, length-drop journal_at l))

pub journal_at_lem : (l : List ℕ) (i : ℕ) → i < journal_count l → get_or (journal_list l) i 0 ≡ journal_word l i
journal_at_lem l i h = get_or-take (journal_count l) (drop journal_at l) i 0 h ∙ get_or-drop journal_at l i 0

pub journal_whole : (l : List ℕ) → take (journal_count l) (journal_list l) ≡ journal_list l
journal_whole l = take-take (journal_count l) (journal_count l) (drop journal_at l) (le_refl (journal_count l))

-- ---- what stands in a list

pub among_append : (xs ys : List ℕ) (y : ℕ) → among (xs ++ ys) y ≡ (among xs y || among ys y)
unfolding among
among_append [] ys y = refl
among_append (x ∷ xs) ys y = ap (λ (b : Bool). eqb x y || b) (among_append xs ys y) ∙ sym (regroup (eqb x y) (among xs y) (among ys y))
  where
    regroup : (a b c : Bool) → ((a || b) || c) ≡ (a || (b || c))
    regroup true b c = refl
    regroup false b c = refl

-- with one entry more
pub among_more : (xs : List ℕ) (i y : ℕ) → i < length xs → among (take (i + 1) xs) y ≡ (among (take i xs) y || eqb (get_or xs i 0) y)
among_more xs i y h =
    ap (λ (k : ℕ). among (take k xs) y) (add-one i)
    ∙ ap (λ (z : List ℕ). among z y) (take-suc xs i 0 h)
    ∙ among_append (take i xs) (get_or xs i 0 ∷ []) y
    ∙ ap (λ (b : Bool). among (take i xs) y || b) (among_one (get_or xs i 0) y)

-- where it stands
pub among_index : (xs : List ℕ) (y : ℕ) → among xs y ≡ true → (k : ℕ) × (k < length xs) × (get_or xs k 0 ≡ y)
unfolding among
among_index [] y e = absurd (false≢true e)
among_index (x ∷ xs) y e = go (or_cases (eqb x y) (among xs y) e) (among_index xs y)
  where
    go : (eqb x y ≡ true) ⊎ (among xs y ≡ true) → (among xs y ≡ true → (k : ℕ) × (k < length xs) × (get_or xs k 0 ≡ y))
        → (k : ℕ) × (k < length (x ∷ xs)) × (get_or (x ∷ xs) k 0 ≡ y)
    go (inl h) r = (0, omega arith, eqb-true x y h)
    go (inr h) r = let w = r h in (suc w.0, omega arith, w.2)

pub index_among : (xs : List ℕ) (k y : ℕ) → k < length xs → get_or xs k 0 ≡ y → among xs y ≡ true
unfolding among
index_among [] k y h e = absurd (omega arith)
index_among (x ∷ xs) zero y h e = or_left (among xs y) (eq-eqb x y e)
index_among (x ∷ xs) (suc k) y h e = or_right (eqb x y) (index_among xs k y (omega arith) e)
