-- Laws of the parents of an admitted record, and when all of them are held. Assumes nothing.
use mathlib.Core.Path.{◌≡◌, refl, sym, ap, ◌∙◌}
use mathlib.Core.Bool.{Bool, true, false, not, ◌&&◌, true≢false}
use mathlib.Core.Logic.{◌⊎◌, inl, inr, ⊎_elim}
use mathlib.Core.List.{List}
use Prim.Native.Nat.{ℕ, ◌+◌, ◌-◌, ◌^◌, ◌≤◌, ◌<◌}
use native.Mathlib.Nat.{lt_of_lt_of_le}
use native.Mathlib.Omega.{arith}
use lib.Dec.{eqb}
use lib.ListN.{length}
use lib.Pow.{pow_mono}
use borrow.Author.Tests.{eqb-true, eq-eqb, not-true, not-false}
use Rattle.record.specs.Below.{all, any}
use Rattle.record.specs.Members.{rounds, legal, has, id_of, id_round, id_member, is_round, slots, id_limit}
use Rattle.record.specs.Layout.{body_size, weak_slots, strong_of, weak_count_of, weak_of}
use Rattle.record.specs.Refusals.{number_of}
use Rattle.record.specs.Questions.{body_refusal}
use Rattle.record.specs.Admitted.{Admitted}
use Rattle.record.proofs.Booleans.{never, and_left, and_right, and_both, and_fails_left, or_left, or_right, or_cases, bool_ext, passed, failed}
use Rattle.record.proofs.Below.{all_intro, all_elim, any_intro, any_elim, any_false, any_off}
use Rattle.record.proofs.Masks.{has_zero, legal_range}
use Rattle.record.proofs.Rounds.{round_in}
use Rattle.record.proofs.Turn.{admitted}
use Rattle.replica.specs.State.{member_count, held_mask, held_id}
use Rattle.replica.specs.Parents.{is_parent, missing, parents_held}
use Rattle.replica.specs.WellFormed.{subset, record_ok}
use Rattle.replica.specs.Inner.{KnownIn, AdmittedIn, WeakIn}
use Rattle.replica.proofs.Laws.{subset_has, has_subset}

-- ---- who is a parent

pub strong_parent : (r : ℕ) (body : List ℕ) (y : ℕ) → id_round y + 1 ≡ r → has (strong_of body) (id_member y) ≡ true → is_parent r body y ≡ true
unfolding is_parent
strong_parent r body y e h = or_left _ (and_both (eq-eqb (id_round y + 1) r e) h)

pub weak_parent_lem : (r : ℕ) (body : List ℕ) (i : ℕ) → i < weak_count_of body → is_parent r body (weak_of body i) ≡ true
unfolding is_parent
weak_parent_lem r body i l =
    or_right (eqb (id_round (weak_of body i) + 1) r && has (strong_of body) (id_member (weak_of body i)))
    (any_intro (weak_count_of body) (λ k. eqb (weak_of body k) (weak_of body i)) i l (eq-eqb (weak_of body i) (weak_of body i) refl))

pub parent_cases : (r : ℕ) (body : List ℕ) (y : ℕ) → is_parent r body y ≡ true
    → ((id_round y + 1 ≡ r) × (has (strong_of body) (id_member y) ≡ true)) ⊎ ((i : ℕ) × (i < weak_count_of body) × (weak_of body i ≡ y))
unfolding is_parent
parent_cases r body y e =
    ⊎_elim
    (λ h. inl (eqb-true (id_round y + 1) r (and_left _ _ h), and_right (eqb (id_round y + 1) r) _ h))
    (λ h. let w = any_elim (weak_count_of body) (λ k. eqb (weak_of body k) y) h in inr (w.0, w.1, eqb-true (weak_of body w.0) y w.2))
    (or_cases (eqb (id_round y + 1) r && has (strong_of body) (id_member y)) _ e)

-- ---- all parents are held

not_held : (a b : Bool) → (a ≡ true → b ≡ true) → (a && not b) ≡ false
not_held true b h = rw (h refl)
not_held false b h = refl

held_if : (a b : Bool) → (a && not b) ≡ false → a ≡ true → b ≡ true
held_if true b e h = not-false b e
held_if false b e h = absurd (true≢false (sym h))

pub parents_intro : (l : List ℕ) (r : ℕ) (body : List ℕ) → ((y : ℕ) → y < id_limit → is_parent r body y ≡ true → held_id l y ≡ true)
    → parents_held l r body ≡ true
unfolding parents_held missing
parents_intro l r body h = ap not (any_false id_limit (missing l r body) (λ y b. not_held (is_parent r body y) (held_id l y) (h y b)))

pub parents_elim : (l : List ℕ) (r : ℕ) (body : List ℕ) → parents_held l r body ≡ true → (y : ℕ) → y < id_limit → is_parent r body y ≡ true → held_id l y ≡ true
unfolding parents_held missing
parents_elim l r body e y b =
    held_if (is_parent r body y) (held_id l y) (any_off id_limit (missing l r body) (not-true (any id_limit (missing l r body)) e) y b)

-- ---- of an admitted record

module _ (n r p : ℕ) (l body : List ℕ) (group : legal n ≡ true) (a : Admitted n r p body) where
  -- there are at most five weak ids
  pub weak_five : weak_count_of body ≤ weak_slots
  weak_five = let g = legal_range n group in omega (arith, a.weak_few)

  pub strong_small : strong_of body < 2 ^ slots
  strong_small = let g = legal_range n group in lt_of_lt_of_le a.strong_low (pow_mono {i = n} {j = slots} g.high)

  pub weak_small : (i : ℕ) → i < weak_count_of body → weak_of body i < id_limit
  weak_small i b = omega (arith, weak_five, a.weak_high i (omega (arith, weak_five)) b, a.round_high)

  -- a record of round 1 has no parents
  pub first_held : r < 2 → parents_held l r body ≡ true
  first_held f = parents_intro l r body (λ y b e. ⊎_elim
      (λ s. never (sym (ap (λ (m : ℕ). has m (id_member y)) (a.strong_first (omega (arith, a.round_low)))) ∙ s.1) (has_zero (id_member y)))
      (λ w. absurd (omega (arith, weak_five, a.weak_high w.0 (omega (arith, weak_five, w.1)) w.1)))
      (parent_cases r body y e))

  -- later ones hold their parents where the strong mask is within the held one and every weak id is held
  pub later_held : 2 ≤ r → parents_held l r body ≡ (subset (strong_of body) (held_mask l (r - 1)) && all (weak_count_of body) (λ i. held_id l (weak_of body i)))
  later_held f = bool_ext
      (λ e. and_both
      (has_subset slots (strong_of body) (held_mask l (r - 1)) strong_small (λ m b h. strong_has e m b h))
      (all_intro (weak_count_of body) (λ i. held_id l (weak_of body i))
      (λ i b. parents_elim l r body e (weak_of body i) (weak_small i b) (weak_parent_lem r body i b))))
      (λ e. parents_intro l r body (λ y b t. ⊎_elim
      (λ s. strong_in (and_left _ _ e) y s.0 s.1)
      (λ w. rw w.2 at (all_elim (weak_count_of body) (λ i. held_id l (weak_of body i)) (and_right (subset (strong_of body) (held_mask l (r - 1))) _ e)
      w.0 w.1))
      (parent_cases r body y t)))
    where
      strong_has : parents_held l r body ≡ true → (m : ℕ) → m < slots → has (strong_of body) m ≡ true → has (held_mask l (r - 1)) m ≡ true
      strong_has e m b h =
          let x : id_round (id_of (r - 1) m) ≡ r - 1 = omega arith in
          let y : id_member (id_of (r - 1) m) ≡ m = omega arith in
          rw (x, y)
          at (and_right (is_round (id_round (id_of (r - 1) m))) _
          (parents_elim l r body e (id_of (r - 1) m) (omega (arith, a.round_high))
          (strong_parent r body (id_of (r - 1) m) (omega arith) (rw y h))))

      strong_in : subset (strong_of body) (held_mask l (r - 1)) ≡ true → (y : ℕ) → id_round y + 1 ≡ r → has (strong_of body) (id_member y) ≡ true
          → held_id l y ≡ true
      strong_in e y q h =
          let x : r - 1 ≡ id_round y = omega arith in
          and_both (round_in (id_round y) (omega arith) (omega (arith, a.round_high)))
          (rw x at (subset_has (strong_of body) (held_mask l (r - 1)) (id_member y) e h))

-- ---- the test of question 14, of an admitted record

module _ (l : List ℕ) (r : ℕ) (body : List ℕ) (A : AdmittedIn l r body) where
  known : Admitted (member_count l) r A.source body
  known = admitted (member_count l) r A.source body A.admitted

  -- what is asked of the words
  few : weak_count_of body ≤ weak_slots
  few = weak_five (member_count l) r A.source l body A.group known

  pub parents_size : length body ≡ body_size
  parents_size = known.size

  pub parents_round : r ≤ rounds
  parents_round = known.round_high

  pub parents_weak : WeakIn l body
  parents_weak = record {
    size = A.size;
    body_long = known.size;
    few = few;
    low = λ i b. known.weak_low i (omega (arith, few)) b;
    high = λ i b. omega (arith, few, known.weak_high i (omega (arith, few)) b, known.round_high);
  }

  -- there are none, or the strong mask and then the weak ids decide
  pub parents_none : r < 2 → true ≡ parents_held l r body
  parents_none h = sym (first_held (member_count l) r A.source l body A.group known h)

  module _ (low : 2 ≤ r) (s : Bool) (e : s ≡ subset (strong_of body) (held_mask l (r - 1))) where
    decides : parents_held l r body ≡ (subset (strong_of body) (held_mask l (r - 1)) && all (weak_count_of body) (λ i. held_id l (weak_of body i)))
    decides = later_held (member_count l) r A.source l body A.group known low

    pub strong_no : not s ≡ true → false ≡ parents_held l r body
    strong_no h = sym (decides ∙ and_fails_left _ (failed e h))

    pub weak_decides : not s ≡ false → (z : Bool) → z ≡ all (weak_count_of body) (λ i. held_id l (weak_of body i)) → z ≡ parents_held l r body
    weak_decides h z d = d ∙ sym (decides ∙ rw (passed e h))

-- a weak id is of a round, so the bit in the mask of that round decides
pub weak_held_id : (l body : List ℕ) → WeakIn l body → (i : ℕ) → i < weak_count_of body
    → (b : Bool) → b ≡ has (held_mask l (id_round (weak_of body i))) (id_member (weak_of body i)) → b ≡ held_id l (weak_of body i)
weak_held_id l body W i low b e = rw (round_in _ (W.low i low) (W.high i low)) e

-- ---- the test of a record: it is admitted, and then its parents decide

module _ (l : List ℕ) (n r p : ℕ) (body : List ℕ) (k : KnownIn l n r p body) (m : Bool)
    (em : m ≡ eqb (number_of (body_refusal n r p body)) 0) where
  asked : m ≡ eqb (number_of (body_refusal (member_count l) r p body)) 0
  asked = rw k.members at em

  pub record_no : not m ≡ true → false ≡ record_ok l r p body
  record_no h = sym (and_fails_left _ (failed asked h))

  pub record_in : not m ≡ false → AdmittedIn l r body
  record_in h = record { size = k.words.size; group = k.words.group; source = p; admitted = eqb-true _ 0 (passed asked h) }

  pub parents_decide : not m ≡ false → (z : Bool) → z ≡ parents_held l r body → z ≡ record_ok l r p body
  parents_decide h z d = d ∙ sym (rw (passed asked h))
