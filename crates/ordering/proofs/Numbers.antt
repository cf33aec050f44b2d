-- What the number of a call says: with 0 every question is answered yes, and with another the words stay. Assumes nothing.
use mathlib.Core.Path.{◌≡◌, refl, ap}
use mathlib.Core.Bool.{true, false}
use mathlib.Core.Logic.{◌⊎◌, inl, inr, ⊎_elim}
use mathlib.Core.List.{List, ◌++◌}
use Prim.Native.Nat.{ℕ}
use lib.Dec.{eqb}
use lib.ListN.{length}
use borrow.Author.Tests.{eqb-true, eqb-false, eq-eqb, ne_eqb, not-true}
use Rattle.record.specs.Members.{has}
use Rattle.record.specs.Refusals.{Verdict, number_of, Question, first_no}
use Rattle.record.specs.Questions.{body_refusal}
use Rattle.record.proofs.Booleans.{which, cond_true, cond_false}
use Rattle.record.proofs.Turn.{next, both_yes}
use Rattle.replica.specs.Layout.{state_size}
use Rattle.replica.specs.State.{member_count, held_mask, heard_mask}
use Rattle.replica.specs.Parents.{parents_held}
use Rattle.replica.specs.Outcome.{Outcome, outcome}
use Rattle.replica.specs.Status.{state_questions}
use Rattle.replica.proofs.Formed.{WellFormed, well_formed_lem}
use Rattle.ordering.specs.Calls.{place_questions, vertex_questions, first_questions}
use Rattle.ordering.proofs.Turns.{record_passed, parents_passed}

-- ---- an outcome

module _ (why : Verdict) (l after : List ℕ) where
  -- admitted
  pub number_yes : number_of why ≡ 0 → (outcome why l after).number ≡ 0
  unfolding outcome
  number_yes e = ap (λ (o : Outcome). o.number) (cond_true _ _ (eq-eqb (number_of why) 0 e))

  -- its words are the new ones
  pub words_yes : number_of why ≡ 0 → (outcome why l after).words ≡ after
  unfolding outcome
  words_yes e = ap (λ (o : Outcome). o.words) (cond_true _ _ (eq-eqb (number_of why) 0 e))

  -- refused
  pub number_no : (number_of why ≡ 0 → ⊥) → (outcome why l after).number ≡ number_of why
  unfolding outcome
  number_no d = ap (λ (o : Outcome). o.number) (cond_false _ _ (ne_eqb (number_of why) 0 d))

  -- its words stay
  pub words_no : (number_of why ≡ 0 → ⊥) → (outcome why l after).words ≡ l
  unfolding outcome
  words_no d = ap (λ (o : Outcome). o.words) (cond_false _ _ (ne_eqb (number_of why) 0 d))

-- one or the other
pub decided : (why : Verdict) → (number_of why ≡ 0) ⊎ (number_of why ≡ 0 → ⊥)
decided why = ⊎_elim (λ e. inl (eqb-true _ 0 e)) (λ e. inr (eqb-false _ 0 e)) (which (eqb (number_of why) 0))

-- ---- the questions, all answered yes

-- those of a formed state are passed over
pub past_state : (l : List ℕ) (rest : List Question) → WellFormed l → first_no rest ≡ first_no (state_questions l ++ rest)
past_state l rest S = next _ _ (eq-eqb (length l) state_size S.size) (next _ _ (well_formed_lem l S) refl)

-- a vertex that is admitted was not held, and its parents are
pub vertex_yes : (l : List ℕ) (r p : ℕ) (body : List ℕ) → number_of (first_no (vertex_questions l r p body)) ≡ 0
    → (number_of (body_refusal (member_count l) r p body) ≡ 0) × (has (held_mask l r) p ≡ false) × (parents_held l r body ≡ true)
vertex_yes l r p body e =
    let w = record_passed l r p body (place_questions l r p body) e in
    let q12 = both_yes _ _ _ (eqb-false 12 0 refl) w.3 in
    (w.2, not-true _ (both_yes _ _ _ (eqb-false 13 0 refl) q12.1).0, parents_passed l r p body w.3)

-- a first message that is admitted was not heard
pub first_yes : (l : List ℕ) (r p : ℕ) (body : List ℕ) → number_of (first_no (first_questions l r p body)) ≡ 0
    → (number_of (body_refusal (member_count l) r p body) ≡ 0) × (has (heard_mask l r) p ≡ false)
first_yes l r p body e =
    let w = record_passed l r p body _ e in
    (w.2, not-true _ (both_yes _ _ _ (eqb-false 12 0 refl) w.3).0)
