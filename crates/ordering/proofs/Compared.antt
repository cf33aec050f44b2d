-- Question 12 compares all words. Assumes nothing.
use mathlib.Core.Path.{◌≡◌, refl, sym, ap, ◌∙◌}
use mathlib.Core.Bool.{Bool, true, false, not, ◌&&◌}
use mathlib.Core.Logic.{◌⊎◌, inl, inr, ⊎_elim}
use mathlib.Core.List.{List, [], ◌∷◌, ◌++◌}
use Prim.Native.Nat.{ℕ, ◌+◌, ◌≤◌, ◌<◌}
use native.Mathlib.Omega.{arith}
use lib.Dec.{eqb}
use lib.ListN.{length, get_or, drop}
use lib.Seq.{get_or-take, get_or-drop, ext_get_or}
use borrow.Author.Tests.{eqb-true, eqb-false, eq-eqb, lt-ltb}
use Rattle.record.specs.Members.{has, slots}
use Rattle.record.specs.Refusals.{Verdict, refusal_number, number_of, Question, first_no}
use Rattle.record.specs.Layout.{body_size, round_of, source_of, body_of}
use Rattle.record.specs.Questions.{record_questions}
use Rattle.record.specs.Admitted.{Admitted}
use Rattle.record.specs.declared.refusal.Refusal.TheVariants.{StateSize, Malformed, Weak, Duplicate, Conflict, MissingParent}
use Rattle.record.proofs.Booleans.{never, and_both, cond_true}
use Rattle.record.proofs.Below.{all_elim, all_intro}
use Rattle.record.proofs.Rounds.{round_in}
use Rattle.record.proofs.Turn.{last_number_law}
use Rattle.record.proofs.Turn as turn
use Rattle.replica.specs.Layout.{state_size, cell_at}
use Rattle.replica.specs.State.{member_count, held_mask, cell, vertices}
use Rattle.replica.specs.WellFormed.{well_formed}
use Rattle.replica.specs.Outcome.{outcome}
use Rattle.replica.specs.Status.{state_questions}
use Rattle.replica.proofs.Formed.{WellFormed, formed}
use Rattle.replica.proofs.StatusLaws.{state_ok}
use Rattle.replica.proofs.Dags.{cell_length}
use Rattle.ordering.specs.Calls.{same_body, place_questions, admission_questions, vertex_questions, take_body}
use Rattle.ordering.specs.Compared.{ComparesAllWords}
use Rattle.ordering.proofs.Numbers.{number_yes, number_no, decided}

-- ---- the questions before 12

-- the first no of two lists is that of the first, or that of the second where the first has none
front_or_rest : (xs ys : List Question) → (first_no (xs ++ ys) ≡ first_no xs) ⊎ ((number_of (first_no xs) ≡ 0) × (first_no (xs ++ ys) ≡ first_no ys))
unfolding first_no
front_or_rest [] ys = inr (refl, refl)
front_or_rest ((true, why) ∷ xs) ys = front_or_rest xs ys
front_or_rest ((false, why) ∷ xs) ys = inl refl

-- so where the number is above all of the first list
rest_decides : (k : ℕ) (xs ys : List Question) → number_of (first_no xs) ≤ k → k < number_of (first_no (xs ++ ys))
    → (number_of (first_no xs) ≡ 0) × (first_no (xs ++ ys) ≡ first_no ys)
rest_decides k xs ys few h = ⊎_elim (λ e. absurd (omega (arith, ap number_of e))) (λ w. w) (front_or_rest xs ys)

-- the number of an outcome, where it is not 0
refused_with_lem : (why : Verdict) (l after : List ℕ) (k : ℕ) → 0 < k → (outcome why l after).number ≡ k → number_of why ≡ k
refused_with_lem why l after k high e = ⊎_elim
    (λ z. absurd (omega (arith, number_yes why l after z, e)))
    (λ z. sym (number_no why l after z) ∙ e)
    (decided why)

state_few : (l : List ℕ) → number_of (first_no (state_questions l)) ≤ refusal_number Weak
unfolding first_no
state_few l = go (eqb (length l) state_size) (well_formed l)
  where
    go : (a b : Bool) → number_of (first_no ((a, StateSize) ∷ (b, Malformed) ∷ [])) ≤ refusal_number Weak
    go true true = omega arith
    go true false = omega arith
    go false b = omega arith

-- ---- 12 and 13 of a vertex

-- which booleans give them
twelve : (held same parents : Bool) (x : ℕ)
    → number_of (first_no ((not (held && same), Duplicate) ∷ (not held, Conflict) ∷ (parents, MissingParent x) ∷ [])) ≡ refusal_number Duplicate
    → (held ≡ true) × (same ≡ true)
unfolding first_no
twelve true true parents x e = (refl, refl)
twelve true false parents x e = absurd (eqb-false 13 12 refl e)
twelve false same true x e = absurd (eqb-false 0 12 refl e)
twelve false same false x e = absurd (eqb-false 14 12 refl e)

thirteen : (held same parents : Bool) (x : ℕ)
    → number_of (first_no ((not (held && same), Duplicate) ∷ (not held, Conflict) ∷ (parents, MissingParent x) ∷ [])) ≡ refusal_number Conflict
    → (held ≡ true) × (same ≡ false)
unfolding first_no
thirteen true true parents x e = absurd (eqb-false 12 13 refl e)
thirteen true false parents x e = (refl, refl)
thirteen false same true x e = absurd (eqb-false 0 13 refl e)
thirteen false same false x e = absurd (eqb-false 14 13 refl e)

module _ (l : List ℕ) (r p : ℕ) (body : List ℕ) where
  -- what a number above those of the record tells: the questions before are answered yes, and it is that of 12 to 14
  pub record Asked (k : ℕ) : Type 0 where
    pub formed : WellFormed l
    pub admitted : Admitted (member_count l) r p body
    pub place : number_of (first_no (place_questions l r p body)) ≡ k

  asked : (k : ℕ) → refusal_number Weak < k → (take_body l r p body).number ≡ k → Asked k
  unfolding take_body
  asked k high e =
      let all = vertex_questions l r p body in
      let later = admission_questions l (member_count l) r p body in
      let n : number_of (first_no all) ≡ k = refused_with_lem (first_no all) l _ k (omega arith) e in
      let a = rest_decides (refusal_number Weak) (state_questions l) later (state_few l) (omega (arith, n)) in
      let m : number_of (first_no later) ≡ k = ap number_of (sym a.1) ∙ n in
      let b = rest_decides (refusal_number Weak) (record_questions (member_count l) r p body) (place_questions l r p body)
      (last_number_law (member_count l) r p body) (omega (arith, m)) in
      let s = state_ok l a.0 in
      record {
        formed = formed l s.0 s.1;
        admitted = turn.admitted (member_count l) r p body b.0;
        place = ap number_of (sym b.1) ∙ m;
      }

  module _ (k : ℕ) (K : Asked k) where
    low : p < slots
    low = omega (arith, K.admitted.source_low, K.formed.front.high)

    -- the vertex that is held
    found : has (held_mask l r) p ≡ true → vertices l r p ≡ cell l r p
    unfolding vertices
    found h = cond_true _ _ (and_both (round_in r K.admitted.round_low K.admitted.round_high) h) ∙ cond_true _ _ (lt-ltb p slots low)

    long : length (cell l r p) ≡ body_size
    long = cell_length l K.formed.size r p K.admitted.round_low K.admitted.round_high low

    word : (i : ℕ) → i < body_size → get_or (cell l r p) i 0 ≡ get_or l (cell_at r p + i) 0
    word i h = get_or-take body_size (drop (cell_at r p) l) i 0 h ∙ get_or-drop (cell_at r p) l i 0

    same_words : same_body l r p body ≡ true → cell l r p ≡ body
    unfolding same_body
    same_words e = ext_get_or 0 (cell l r p) body (long ∙ sym K.admitted.size)
        (λ i h. word i (omega (arith, long)) ∙ eqb-true _ _ (all_elim body_size _ e i (omega (arith, long))))

    words_same : cell l r p ≡ body → same_body l r p body ≡ true
    unfolding same_body
    words_same e = all_intro body_size _ (λ i h. eq-eqb _ _ (sym (word i h) ∙ ap (λ (x : List ℕ). get_or x i 0) e))

-- The claim.
pub compares_all_words : ComparesAllWords
compares_all_words l rec = record {
  same = λ e. let K = known (refusal_number Duplicate) (omega arith) e in
      let w = twelve _ _ _ _ K.place in
      found l r p body _ K w.0 ∙ same_words l r p body _ K w.1;
  other = λ e d. let K = known (refusal_number Conflict) (omega arith) e in
      let w = thirteen _ _ _ _ K.place in
      never (words_same l r p body _ K (sym (found l r p body _ K w.0) ∙ d)) w.1;
}
  where
    r : ℕ
    r = round_of rec

    p : ℕ
    p = source_of rec

    body : List ℕ
    body = body_of rec

    known : (k : ℕ) → refusal_number Weak < k → (take_body l r p body).number ≡ k → Asked l r p body k
    known k h e = asked l r p body k h e
