-- Laws of question 11, asked of one weak id after the other and then of the slots that are not used. Assumes nothing.
use mathlib.Core.Path.{◌≡◌, refl, sym, ap, ◌∙◌}
use mathlib.Core.Bool.{Bool, true, false, cond, not, ◌&&◌, ◌||◌}
use mathlib.Core.Logic.{◌⊎◌, inl, inr}
use mathlib.Core.List.{List}
use Prim.Native.Nat.{ℕ, zero, suc, ◌+◌, ◌-◌, ◌*◌, ◌≤◌, ◌<◌}
use native.Mathlib.Omega.{arith}
use lib.Dec.{eqb, leb, ltb}
use borrow.Author.Tests.{le-ltb, leb-true, leb-false, le-leb, lt-leb, lt-ltb, ltb-true, ne_eqb, not-true, not-false}
use Rattle.record.specs.Below.{all}
use Rattle.record.specs.Members.{faulty, slots, id_round}
use Rattle.record.specs.Layout.{weak_slots, weak_count_of, weak_of}
use Rattle.record.specs.Questions.{weak_id_ok, rises, used_ok, slot_ok, weak_ok}
use Rattle.record.specs.Inner.{used_slots, before_ids}
use Rattle.record.proofs.Booleans.{which, and_left, and_right, and_both, and_fails_left, bool_ext, cond_true, cond_false, passed, failed}
use Rattle.record.proofs.Below.{all_cong, all_none, all_more, all_stop, all_intro, all_elim}
use Rattle.record.proofs.Turn.{weak_id}

-- ---- one weak id after the other

-- the ids of the rounds that lie two rounds below, and of no other
pub two_below : (round x : ℕ) → 1 ≤ round → ltb x (slots * (round - 1)) ≡ leb (id_round x + 2) round
two_below round x low = bool_ext
    (λ e. le-leb (id_round x + 2) round (omega (arith, ltb-true x (slots * (round - 1)) e)))
    (λ e. lt-ltb x (slots * (round - 1)) (omega (arith, leb-true (id_round x + 2) round e)))

-- the first weak id rises above nothing, and each later one above the one before
rises_first : (body : List ℕ) → rises body 0 ≡ true
unfolding rises
rises_first body = refl

rises_later : (body : List ℕ) (i : ℕ) → 1 ≤ i → rises body i ≡ ltb (weak_of body (i - 1)) (weak_of body i)
unfolding rises
rises_later body i l = cond_false true _ (ne_eqb i 0 (λ d. omega arith))

-- a weak id above the last one; before the first slot it counts as below every id
weak_slot : (n round : ℕ) (body : List ℕ) (i last : ℕ) → (i ≡ 0 → last ≡ before_ids) → (1 ≤ i → last ≡ weak_of body (i - 1))
    → (ltb last (weak_of body i) && weak_id_ok n round (weak_of body i)) ≡ used_ok n round body i
weak_slot n round body zero last f g = rw (f refl, rises_first body) (bool_ext
    (λ d. and_right (ltb before_ids (weak_of body 0)) _ d)
    (λ d. let w = weak_id n round (weak_of body 0) d in and_both (lt-ltb before_ids (weak_of body 0) (omega (arith, w.1))) d))
weak_slot n round body (suc i) last f g = rw (g (omega arith), rises_later body (suc i) (omega arith))

-- the first i pass, and the last one is that of the slot before, or below every id at first
pub record Risen (n round : ℕ) (body : List ℕ) (last i : ℕ) : Type 0 where
  pub above : before_ids ≤ last
  pub first : i ≡ 0 → last ≡ before_ids
  pub later : 1 ≤ i → last ≡ weak_of body (i - 1)
  pub pass : all i (used_ok n round body) ≡ true

pub risen_start : (n round : ℕ) (body : List ℕ) → Risen n round body before_ids 0
risen_start n round body = record { above = omega arith; first = λ _. refl; later = λ h. absurd (omega arith); pass = all_none _ }

-- x is the weak id of slot i
module _ {n round : ℕ} {body : List ℕ} {last i : ℕ} (R : Risen n round body last i) (x : ℕ) (is : x ≡ weak_of body i) (b : Bool)
    (e : b ≡ (ltb last x && weak_id_ok n round x)) where
  slot : used_ok n round body i ≡ b
  slot = sym (rw is at e ∙ weak_slot n round body i last R.first R.later)

  pub risen_stop : (count : ℕ) → i < count → not b ≡ true → false ≡ all count (used_ok n round body)
  risen_stop count low t = sym (all_stop _ _ i low (slot ∙ not-true b t))

  pub risen_more : not b ≡ false → Risen n round body x (i + 1)
  risen_more t =
      let k : i ≡ i + 1 - 1 = omega arith in record {
        above = omega (arith, R.above, ltb-true last x (and_left (ltb last x) _ (passed e t)));
        first = λ h. absurd (omega arith);
        later = λ h. is ∙ ap (weak_of body) k;
        pass = all_more _ _ R.pass (slot ∙ not-false b t);
      }

-- ---- the slots that are used, and the others

pub used_few : (body : List ℕ) → used_slots body ≤ weak_slots
unfolding used_slots
used_few body = go (which (leb (weak_count_of body) weak_slots))
  where
    go : (leb (weak_count_of body) weak_slots ≡ true) ⊎ (leb (weak_count_of body) weak_slots ≡ false) → used_slots body ≤ weak_slots
    go (inl e) = rw e (leb-true _ _ e)
    go (inr e) = rw e (omega arith)

used_same : (body : List ℕ) (i : ℕ) → i < weak_slots → ltb i (weak_count_of body) ≡ ltb i (used_slots body)
unfolding used_slots
used_same body i l = go (which (leb (weak_count_of body) weak_slots))
  where
    go : (leb (weak_count_of body) weak_slots ≡ true) ⊎ (leb (weak_count_of body) weak_slots ≡ false) → ltb i (weak_count_of body) ≡ ltb i (used_slots body)
    go (inl e) = rw e
    go (inr e) = rw e (lt-ltb i (weak_count_of body) (omega (arith, leb-false (weak_count_of body) weak_slots e)) ∙ sym (lt-ltb i weak_slots l))

-- every slot is used or 0
abbrev pub rest_zero : List ℕ → ℕ → Bool
rest_zero body k = all weak_slots (λ i. ltb i k || eqb (weak_of body i) 0)

slots_parts : (n round : ℕ) (body : List ℕ)
    → all weak_slots (slot_ok n round body) ≡ (all (used_slots body) (used_ok n round body) && rest_zero body (used_slots body))
unfolding slot_ok
slots_parts n round body = bool_ext
    (λ e. and_both
    (all_intro (used_slots body) (used_ok n round body) (λ i l. sym (cond_true _ _ (lt-ltb i (used_slots body) l)) ∙ there e i (omega (arith, used_few body))))
    (all_intro weak_slots _ (λ i l. unused (ltb i (used_slots body)) (used_ok n round body i) _ (there e i l))))
    (λ e. all_intro weak_slots (slot_ok n round body) (λ i l. rw (used_same body i l)
    (back (ltb i (used_slots body)) (used_ok n round body i) _
    (λ h. all_elim (used_slots body) (used_ok n round body) (and_left _ _ e) i (ltb-true i (used_slots body) h))
    (all_elim weak_slots (λ j. ltb j (used_slots body) || eqb (weak_of body j) 0) (and_right (all (used_slots body) (used_ok n round body)) _ e) i l))))
  where
    there : all weak_slots (slot_ok n round body) ≡ true → (i : ℕ) → i < weak_slots
        → cond (ltb i (used_slots body)) (used_ok n round body i) (eqb (weak_of body i) 0) ≡ true
    there e i l = rw (used_same body i l) at (all_elim weak_slots (slot_ok n round body) e i l)

    unused : (a u z : Bool) → cond a u z ≡ true → (a || z) ≡ true
    unused true u z e = refl
    unused false u z e = e

    back : (a u z : Bool) → (a ≡ true → u ≡ true) → (a || z) ≡ true → cond a u z ≡ true
    back true u z h e = h refl
    back false u z h e = e

-- ---- question 11 decided in parts

-- none is used: every slot is 0
pub none_decide : (n round : ℕ) (body : List ℕ) → weak_count_of body ≡ 0 → (z : Bool) → z ≡ rest_zero body 0 → z ≡ weak_ok n round body
unfolding weak_ok slot_ok
none_decide n round body e z ez =
    ez ∙ sym (rw (le-leb (weak_count_of body) (faulty n) (omega arith))
    (all_cong weak_slots (slot_ok n round body) (λ i. ltb i 0 || eqb (weak_of body i) 0) (λ i l. slot i)))
  where
    slot : (i : ℕ) → slot_ok n round body i ≡ (ltb i 0 || eqb (weak_of body i) 0)
    slot i = rw (e, le-ltb i 0 (omega arith))

module _ (n round : ℕ) (body : List ℕ) (f : ℕ) (e : f ≡ faulty n) where
  -- too many are used
  pub weak_over : f < weak_count_of body → false ≡ weak_ok n round body
  unfolding weak_ok
  weak_over h = sym (and_fails_left _ (lt-leb (weak_count_of body) (faulty n) (omega arith)))

  -- or those that are used and then the other slots decide
  module _ (h : weak_count_of body ≤ f) (k : ℕ) (ek : k ≡ used_slots body) (b : Bool) (eb : b ≡ all k (used_ok n round body)) where
    decides : weak_ok n round body ≡ (all k (used_ok n round body) && rest_zero body k)
    unfolding weak_ok
    decides = rw (le-leb (weak_count_of body) (faulty n) (omega arith), ek) (slots_parts n round body)

    pub ids_no : not b ≡ true → false ≡ weak_ok n round body
    ids_no t = sym (decides ∙ and_fails_left _ (failed eb t))

    pub slots_decide : not b ≡ false → (z : Bool) → z ≡ rest_zero body k → z ≡ weak_ok n round body
    slots_decide t z ez = ez ∙ sym (decides ∙ rw (passed eb t))
