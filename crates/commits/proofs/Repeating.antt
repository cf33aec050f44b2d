-- The commits one after the other, until no round is committable. Assumes nothing.
use mathlib.Core.Path.{◌≡◌, refl, sym, ap, ◌∙◌}
use mathlib.Core.Bool.{Bool, true, false}
use mathlib.Core.Logic.{◌⊎◌, inl, inr, ⊎_elim}
use mathlib.Core.List.{List, [], ◌∷◌, ◌++◌}
use Prim.Native.Nat.{ℕ, zero, suc, ◌+◌, ◌-◌, ◌*◌, ◌≤◌, ◌<◌}
use native.Mathlib.Nat.{not-suc-le-zero, mul-le-mul_left, mul-le-mul_right}
use native.Mathlib.Numerals.{sub-one}
use native.Mathlib.Omega.{arith}
use lib.ListN.{length, length-append}
use lib.Seq.{get_or-set_same, get_or-set_other}
use borrow.Author.Tests.{lt-ltb, le-ltb, ltb-true, leb-true}
use lib.Dec.{ltb, leb}
use Rattle.record.specs.Members.{rounds, voted_rounds}
use Rattle.record.proofs.Booleans.{which, never, and_left, and_right, and_fails_left, and_fails_right, or_cases, or_left, or_right, cond_true, cond_false}
use Rattle.record.proofs.Below.{least_sat}
use Rattle.protocol.specs.Dag.{backed}
use Rattle.protocol.proofs.Commit.{backed_held}
use Rattle.protocol.specs.Chain.{leader_id}
use Rattle.replica.specs.Layout.{leader_count_at, committed_round_at, leaders_at, leaders_size}
use Rattle.replica.specs.State.{member_count, committed_round, leader_count, leader_word, vertices, dag, width, leader_index, last_leader, last_place}
use Rattle.replica.proofs.Width.{width_some, width_most, width_same, width_one}
use Rattle.replica.proofs.Formed.{WellFormed}
use Rattle.commits.proofs.Ground.{ended}
use Rattle.replica.proofs.Seats.{index_kept, index_leader, place_some}
use Rattle.commits.specs.Commit.{append_leaders, taken, commit, committable, lowest, grows, is_ready, commit_once, commit_up_to, most_commits}
use Rattle.commits.specs.Standing.{Room, Going, Step, Ready, AtPlace, Next, Further, commit_step}
use Rattle.commits.proofs.Readying.{taken_last, ready_rises}
use Rattle.commits.proofs.Frame.{Alike, alike_self, alike_then, vertices_same, standing_kept}
use Rattle.commits.proofs.Appending.{appends_size, appends_last}
use Rattle.commits.proofs.Committing.{quiet_room, order_head, ordered_kept, going_held, taken_fit, taken_room, second, quiet_led}

-- how far the leader list has come, in leaders
abbrev pub reach : List ℕ → ℕ
reach l = width l * committed_round l + last_place l

-- a committable round's main leader may be committed
pub committable_ready : (l : List ℕ) (q : ℕ) → committable l q ≡ true → Ready l q 0
unfolding committable
committable_ready l q e =
    let rest = and_right (ltb (committed_round l) q) _ e in
    record {
      step = inl (refl, ltb-true _ _ (and_left (ltb (committed_round l) q) _ e));
      high = leb-true q voted_rounds (and_left (leb q voted_rounds) _ rest);
      index = width_some l;
      there = backed_held (member_count l) (dag l) q 0 (and_right (leb q voted_rounds) _ rest);
    }

-- so may the next leader of the committed round, where that grows
pub grows_ready : (l : List ℕ) → committed_round l ≤ voted_rounds → grows l ≡ true → Ready l (committed_round l) (last_place l)
unfolding grows
grows_ready l high e =
    let rest = and_right (ltb 0 (committed_round l)) _ e in
    record {
      step = inr (refl, refl, ltb-true _ _ (and_left (ltb 0 (committed_round l)) _ e));
      high = high;
      index = ltb-true _ _ (and_left (ltb (last_place l) (width l)) _ rest);
      there = backed_held (member_count l) (dag l) (committed_round l) (last_place l) (and_right (ltb (last_place l) (width l)) _ rest);
    }

-- what the next commit is
pub record Once (l : List ℕ) : Type 0 where
  pub round : ℕ
  pub seat : ℕ
  pub ready : Ready l round seat
  pub is : commit_once l ≡ commit l round seat

once_grows : (l : List ℕ) → committed_round l ≤ voted_rounds → grows l ≡ true → Once l
unfolding commit_once
once_grows l high e = record { round = committed_round l; seat = last_place l; ready = grows_ready l high e; is = cond_true _ _ e }

once_main : (l : List ℕ) → grows l ≡ false → lowest l < rounds → Once l
unfolding commit_once
once_main l e h = record { round = lowest l; seat = 0; ready = committable_ready l (lowest l) (least_sat rounds (committable l) h); is = cond_false _ _ e }

pub once : (l : List ℕ) → committed_round l ≤ voted_rounds → is_ready l ≡ true → Once l
unfolding is_ready
once l high e = go (which (grows l))
  where
    go : (grows l ≡ true) ⊎ (grows l ≡ false) → Once l
    go (inl g) = once_grows l high g
    go (inr g) = once_main l g (ltb-true _ _ (⊎_elim (λ d. never d g) (λ d. d) (or_cases (grows l) (ltb (lowest l) rounds) e)))

module _ (l : List ℕ) (G : Going l) (q seat : ℕ) (r : Ready l q seat) where
  -- what stays alike over the whole commit, and the words of the leader list that the journal's growth leaves
  kept : Alike l (commit l q seat) × Room (commit l q seat)
      × ((j : ℕ) → j < leaders_size → leader_word (commit l q seat) j ≡ leader_word (second l G q seat r) j)
  unfolding commit
  kept =
      let Q = (quiet_led l G q seat r).0 in
      let w = ordered_kept (taken l q seat) (second l G q seat r) (vertices l) (sym (vertices_same Q.alike))
      (standing_kept Q.alike
      G.standing)
      (quiet_room Q G.room)
      (λ y m. rw (vertices_same Q.alike) (going_held l G q seat r y m).0)
      in
      (alike_then Q.alike w.0, w.1, w.2)

  pub commit_alike : Alike l (commit l q seat) × Room (commit l q seat)
  commit_alike = (kept.0, kept.1)

  -- q is the committed round then
  pub commit_round : committed_round (commit l q seat) ≡ q
  unfolding commit
  commit_round =
      order_head (vertices l) (taken l q seat) (second l G q seat r) committed_round_at (omega arith)
      ∙ get_or-set_same (append_leaders l (taken l q seat)) committed_round_at q 0 (omega (arith, appends_size (taken l q seat) l, G.standing.size))

  commit_count : leader_count (commit l q seat) ≡ leader_count l + length (taken l q seat)
  unfolding commit
  commit_count =
      order_head (vertices l) (taken l q seat) (second l G q seat r) leader_count_at (omega arith)
      ∙ get_or-set_other (append_leaders l (taken l q seat)) committed_round_at leader_count_at q 0 (λ e. omega arith) ∙ (quiet_led l G q seat r).1

  last : (xs : List ℕ) × (taken l q seat ≡ xs ++ leader_id (member_count l) q seat ∷ [])
  last = taken_last l G.standing.members G.standing.valid q seat r

  last_word : last_leader (commit l q seat) ≡ leader_id (member_count l) q seat
  last_word =
      let t = last in
      let x = leader_id (member_count l) q seat in
      let room = taken_room l G q seat r in
      let long : length (taken l q seat) ≡ length t.0 + 1 = ap length t.1 ∙ length-append t.0 (x ∷ []) ∙ omega arith in
      let at : leader_count (commit l q seat) - 1 ≡ leader_count l + length t.0 = omega (arith, commit_count) in
      ap (leader_word (commit l q seat)) at
      ∙ kept.2 (leader_count l + length t.0) (omega (arith, room))
      ∙ get_or-set_other (append_leaders l (taken l q seat)) committed_round_at (leaders_at + (leader_count l + length t.0)) q 0 (λ e. omega arith)
      ∙ ap (λ (ys : List ℕ). leader_word (append_leaders l ys) (leader_count l + length t.0)) t.1
      ∙ appends_last t.0 l x G.standing.size (omega (arith, room))

  low : 1 ≤ q
  low = go r.step
    where
      go : Step l q seat → 1 ≤ q
      go (inl w) = omega (arith, w.1)
      go (inr w) = w.2

  -- the list has come to that leader's place
  pub commit_place : last_place (commit l q seat) ≡ seat + 1
  commit_place =
      let n = member_count l in
      let i : leader_index (commit l q seat) (last_leader (commit l q seat)) ≡ seat =
      ap (leader_index (commit l q seat)) last_word ∙ index_kept l (commit l q seat) kept.0.members (leader_id n q seat)
      ∙ (index_leader l q seat low (omega (arith, r.high)) r.index G.standing.low G.standing.high).1 in
      let some : 0 < leader_count (commit l q seat) = omega (arith, commit_count, ap length last.1, length-append last.0 (leader_id n q seat ∷ [])) in
      place_some (commit l q seat) (λ d. omega arith) ∙ ap (λ (z : ℕ). z + 1) i

  pub going_on : Going (commit l q seat)
  going_on = record {
    standing = standing_kept commit_alike.0 G.standing;
    room = commit_alike.1;
    place = rw (width_same l (commit l q seat)) (omega (arith, commit_place, r.index));
    few = rw (commit_round, width_same l (commit l q seat)) (omega (arith, commit_place, commit_count, taken_fit l G q seat r));
    high = omega (arith, commit_round, r.high);
  }

  -- it comes further with each commit, and never beyond the last leader of round 31
  pub reach_rises : reach l < reach (commit l q seat)
  reach_rises =
      rw (commit_round, width_same l (commit l q seat))
      (omega (arith, commit_place, ready_rises l G.standing.members G.standing.valid q seat r G.place))

  pub reach_most : reach l < most_commits
  reach_most =
      let k : q ≤ voted_rounds = r.high in
      omega (
        arith,
        ready_rises l G.standing.members G.standing.valid q seat r G.place,
        mul-le-mul_left (width l) k,
        mul-le-mul_right voted_rounds (width_most l),
        r.index,
        width_most l,
      )

-- ---- all commits

-- the state l on the way from l₀, with k commits left at most
pub record Onward (l₀ l : List ℕ) : Type 0 where
  pub going : Going l
  pub alike : Alike l₀ l
  pub left : ℕ
  pub enough : most_commits ≤ left + reach l
  pub is : commit_up_to l₀ most_commits ≡ commit_up_to l left

pub onward_start : (l : List ℕ) → Going l → Onward l l
onward_start l G = record { going = G; alike = alike_self l; left = most_commits; enough = omega arith; is = refl }

commit_more : (l : List ℕ) (k : ℕ) → is_ready l ≡ true → 0 < k → commit_up_to l k ≡ commit_up_to (commit_once l) (k - 1)
unfolding commit_up_to
commit_more l zero h p = absurd (not-suc-le-zero p)
commit_more l (suc k) h p = rw (h, sub-one (suc k))

commit_over : (l : List ℕ) (k : ℕ) → is_ready l ≡ false → commit_up_to l k ≡ l
unfolding commit_up_to
commit_over l zero h = refl
commit_over l (suc k) h = rw h

-- what the code may use of the state after the next commit
pub record Later (n : ℕ) (l₀ l m : List ℕ) : Type 0 where
  pub onward : Onward l₀ m
  pub members : n ≡ member_count m
  pub less : most_commits - reach m < most_commits - reach l

pub onward_next : (n : ℕ) (l₀ l m : List ℕ) → n ≡ member_count l₀ → Onward l₀ l → is_ready l ≡ true → m ≡ commit_once l → Later n l₀ l m
onward_next n l₀ l m f o h d =
    let w = once l o.going.high h in
    let G = o.going in
    let A = alike_then o.alike (commit_alike l G w.round w.seat w.ready).0 in
    let e : m ≡ commit l w.round w.seat = d ∙ w.is in
    let rises = reach_rises l G w.round w.seat w.ready in
    let most = reach_most l G w.round w.seat w.ready in
    rw e (record {
      onward = record {
        going = going_on l G w.round w.seat w.ready;
        alike = A;
        left = o.left - 1;
        enough = omega (arith, o.enough, rises);
        is = o.is ∙ commit_more l o.left h (omega (arith, o.enough, most)) ∙ ap (λ (x : List ℕ). commit_up_to x (o.left - 1)) w.is;
      };
      members = f ∙ sym A.members;
      less = omega (arith, rises, most);
    })

pub onward_end : (l₀ l m : List ℕ) → Onward l₀ l → is_ready l ≡ false → m ≡ l → m ≡ commit_up_to l₀ most_commits
onward_end l₀ l m o h e = e ∙ sym (o.is ∙ commit_over l o.left h)

-- ---- the tests, in the order of the code

pub is_growing : (l : List ℕ) → grows l ≡ true → is_ready l ≡ true
unfolding is_ready
is_growing l e = or_left _ e

pub is_lowest : (l : List ℕ) → lowest l < rounds → is_ready l ≡ true
unfolding is_ready
is_lowest l h = or_right (grows l) (lt-ltb _ _ h)

pub is_over : (l : List ℕ) → grows l ≡ false → rounds ≤ lowest l → is_ready l ≡ false
unfolding is_ready
is_over l e h = rw (e, le-ltb _ _ h)

pub once_growing : (l : List ℕ) → grows l ≡ true → commit l (committed_round l) (last_place l) ≡ commit_once l
unfolding commit_once
once_growing l e = sym (cond_true _ _ e)

pub once_lowest : (l : List ℕ) → grows l ≡ false → commit l (lowest l) 0 ≡ commit_once l
unfolding commit_once
once_lowest l e = sym (cond_false _ _ e)

-- whether the committed round grows
pub grow_none : (l : List ℕ) (c : ℕ) → c ≡ committed_round l → c ≡ 0 → false ≡ grows l
unfolding grows
grow_none l c e z = sym (and_fails_left _ (le-ltb 0 (committed_round l) (omega arith)))

pub grow_full : (l : List ℕ) (a w : ℕ) → a ≡ last_place l → w ≡ width l → w ≤ a → false ≡ grows l
unfolding grows
grow_full l a w e f h = sym (and_fails_right (ltb 0 (committed_round l)) (and_fails_left _ (le-ltb (last_place l) (width l) (omega arith))))

pub grow_asked : (l : List ℕ) (n c a w : ℕ) (b : Bool) → n ≡ member_count l → c ≡ committed_round l → a ≡ last_place l → w ≡ width l → (c ≡ 0 → ⊥) → a < w
    → b ≡ backed n (dag l) c a → b ≡ grows l
unfolding grows
grow_asked l n c a w b en ec ea ew h k f =
    f ∙ sym (rw (lt-ltb 0 (committed_round l) (positive (committed_round l) (λ z. h (ec ∙ z))), lt-ltb (last_place l) (width l) (omega arith), en, ec, ea))
  where
    positive : (x : ℕ) → (x ≡ 0 → ⊥) → 0 < x
    positive zero h = absurd (h refl)
    positive (suc x) h = omega arith

-- what the two kinds of commits ask
pub further : (l : List ℕ) (n c a : ℕ) → Going l → n ≡ member_count l → c ≡ committed_round l → a ≡ last_place l → grows l ≡ true → Further l n c a
further l n c a G en ec ea g =
    let r = grows_ready l G.high g in
    rw (en, ec, ea) (record {
      at = record { going = G; members = refl; round = refl; place = refl };
      some = some r.step;
      index = r.index;
      there = r.there;
    })
  where
    some : Step l (committed_round l) (last_place l) → 0 < committed_round l
    some (inl w) = absurd (omega (arith, w.1))
    some (inr w) = w.2

pub main_next : (l : List ℕ) (n c a q : ℕ) → AtPlace l n c a → q ≡ lowest l → q < rounds → Next l n c a q
unfolding committable
main_next l n c a q A eq h =
    let t = least_sat rounds (committable l) (omega arith) in
    let r = committable_ready l (lowest l) t in
    let above : committed_round l < lowest l = ltb-true _ _ (and_left (ltb (committed_round l) (lowest l)) _ t) in
    record {
      at = A;
      low = omega (arith, A.round, eq);
      high = omega (arith, eq, r.high);
      there = rw (A.members, eq) r.there;
    }

-- what the code tells of one commit
pub told_some : (l m : List ℕ) (b : Bool) → is_ready l ≡ true → b ≡ true → m ≡ commit_once l → (b ≡ is_ready l) × (m ≡ commit_step l)
told_some l m b h e d = (e ∙ sym h, d ∙ sym (cond_true _ _ h))

pub told_none : (l m : List ℕ) (b : Bool) → is_ready l ≡ false → b ≡ false → m ≡ l → (b ≡ is_ready l) × (m ≡ commit_step l)
told_none l m b h e d = (e ∙ sym h, d ∙ sym (cond_false _ _ h))

-- where a round has one leader, the committed round of a formed state never grows
pub one_still : (l : List ℕ) → WellFormed l → grows l ≡ false
one_still l S = go (which (ltb 0 (committed_round l)))
  where
    go : (ltb 0 (committed_round l) ≡ true) ⊎ (ltb 0 (committed_round l) ≡ false) → grows l ≡ false
    go (inl e) = sym (grow_full l (last_place l) (width l) refl refl (omega (arith, width_one l, (ended l S).some (ltb-true _ _ e))))
    go (inr e) = unfold grows in and_fails_left _ e

pub one_once : (l : List ℕ) → WellFormed l → commit_once l ≡ commit l (lowest l) 0
one_once l S = sym (once_lowest l (one_still l S))

pub one_ready : (l : List ℕ) → WellFormed l → is_ready l ≡ ltb (lowest l) rounds
unfolding is_ready
one_ready l S = rw (one_still l S)
