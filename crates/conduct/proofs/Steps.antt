-- What one call makes and signs, and what its marks say of it. Assumes nothing.
use mathlib.Core.Path.{◌≡◌, refl, ap, ◌∙◌}
use mathlib.Core.Bool.{true, false}
use mathlib.Core.Logic.{⊎_elim}
use mathlib.Core.List.{List, [], ◌∷◌, ◌++◌, map}
use Prim.Native.Nat.{ℕ, ◌-◌, ◌≤◌}
use native.Mathlib.Omega.{arith}
use lib.Dec.{eqb}
use borrow.Author.Tests.{eqb-true, eq-eqb, ne_eqb}
use Rattle.record.specs.Members.{leader, has, add, is_round, rounds}
use Rattle.record.specs.Refusals.{number_of}
use Rattle.record.specs.Layout.{round_of, body_of, strong_of, Digest}
use Rattle.record.proofs.Booleans.{which, and_left, cond_true, cond_false}
use Rattle.record.proofs.Masks.{has_remove_same}
use Rattle.record.proofs.Rounds.{round_range}
use Rattle.protocol.specs.Dag.{votes}
use Rattle.replica.specs.Layout.{made_at}
use Rattle.replica.specs.State.{member_count, current_round, held_mask, made_rounds, signed_rounds}
use Rattle.replica.proofs.Formed.{WellFormed}
use Rattle.proposing.specs.Own.{marks_round, was_made, was_signed, mark_round}
use Rattle.proposing.specs.Making.{parents_in, made_strong, made_record, propose_refusal, propose_vertex}
use Rattle.proposing.specs.Signing.{signing_round, sign_refusal, put_own_no_vote, sign_no_vote}
use Rattle.proposing.specs.Claims.{Passes}
use Rattle.proposing.proofs.Passing.{made_passes}
use Rattle.proposing.proofs.Kept.{marks_here, mark_here, signed_here, making_passed, signing_passed, signing_round_lem}
use Rattle.runs.specs.Call.{Call, opening, vertex, vertex_with, first_message, timeout, no_vote, bundle, status, ask_leader_list, ask_journal_list}
use Rattle.runs.specs.Call.{hand_leader_list, hand_journal_list, making, signing, outcome_of}
use Rattle.ordering.proofs.Turns.{outcome_zero}
use Rattle.ordering.proofs.Numbers.{words_yes}
use Rattle.conduct.specs.Made.{Made, made_by, signed_by, all_made, rounds_signed, made_records}

-- the call c on the words l made a record
pub record MadeNow (c : Call) (l : List ℕ) : Type 0 where
  pub words : List ℕ
  pub makes : made_by c l ≡ record { state = l; words = words } ∷ []
  pub signs : signed_by c l ≡ []
  -- of the current round, which was not marked and is now
  pub round : round_of words ≡ current_round l
  pub new : was_made l (current_round l) ≡ false
  pub marked : was_made (outcome_of c l).words (current_round l) ≡ true
  -- which does not vote where a no-vote was signed
  pub against : was_signed l (current_round l - 1) ≡ true → votes (member_count l) (current_round l - 1) 0 (body_of words) ≡ false
  pub passes : Passes l words

-- it signed a no-vote
pub record SignedNow (c : Call) (l : List ℕ) : Type 0 where
  pub makes : made_by c l ≡ []
  pub signs : signed_by c l ≡ signing_round l ∷ []
  -- before a record of the current round was made, and the round before is marked now
  pub later : 2 ≤ current_round l
  pub unmade : was_made l (current_round l) ≡ false
  pub marked : was_signed (outcome_of c l).words (signing_round l) ≡ true

-- it did one of these, or neither
pub data Did (c : Call) (l : List ℕ) : Type 0 where
  neither : made_by c l ≡ [] → signed_by c l ≡ [] → Did c l
  made : MadeNow c l → Did c l
  signed : SignedNow c l → Did c l

-- a record of a round after one for which a no-vote was signed has its leader not among its strong parents
without_leader_lem : (l : List ℕ) → was_signed l (current_round l - 1) ≡ true → has (made_strong l) (leader (member_count l) (current_round l - 1)) ≡ false
unfolding made_strong parents_in
without_leader_lem l e =
    let w = round_range (current_round l - 1) (unfold marks_round in and_left (is_round (current_round l - 1)) _ e) in
    let p = leader (member_count l) (current_round l - 1) in
    ap (λ (m : ℕ). has m p) (cond_false _ _ (ne_eqb (current_round l) 1 (λ d. omega (arith, w.0))) ∙ cond_true _ _ e)
    ∙ has_remove_same (held_mask l (current_round l - 1)) p

module _ (l : List ℕ) (S : WellFormed l) where
  -- making, with the number 0
  made_now : (digest : Digest) → (propose_vertex l digest.words).outcome.number ≡ 0 → MadeNow (making digest) l
  made_now digest e = record {
    words = (propose_vertex l digest.words).made;
    makes = cond_true _ _ (eq-eqb (propose_vertex l digest.words).outcome.number 0 e);
    signs = refl;
    round = ap round_of is ∙ unfold made_record in refl;
    new = (making_passed l why).new;
    marked = ap (λ (x : ℕ). marks_round x (current_round l)) word
        ∙ marks_here (made_rounds l) (current_round l) range.0 range.1;
    against = λ d. ap (λ (x : List ℕ). votes (member_count l) (current_round l - 1) 0 (body_of x)) is ∙ strong ∙ without_leader_lem l d;
    passes = made_passes l digest e;
  }
    where
      -- nothing refused it
      why : number_of (propose_refusal l) ≡ 0
      why = unfold propose_vertex in outcome_zero (propose_refusal l) l (mark_round l made_at (current_round l)) e

      range : (1 ≤ current_round l) × (current_round l ≤ rounds)
      range = round_range (current_round l) (making_passed l why).round

      -- the record
      is : (propose_vertex l digest.words).made ≡ made_record l digest.words
      is = unfold propose_vertex in cond_true _ _ (eq-eqb (number_of (propose_refusal l)) 0 why)

      strong : votes (member_count l) (current_round l - 1) 0 (body_of (made_record l digest.words))
          ≡ has (made_strong l) (leader (member_count l) (current_round l - 1))
      strong = unfold made_record strong_of in refl

      -- word 6
      word : made_rounds (propose_vertex l digest.words).outcome.words ≡ add (made_rounds l) (current_round l - 1)
      word = unfold propose_vertex in
          ap (λ (k : List ℕ). made_rounds k) (words_yes (propose_refusal l) l (mark_round l made_at (current_round l)) why)
          ∙ mark_here l made_at (current_round l) (omega (arith, S.size))

  -- signing, with the number 0
  signed_now : (sign_no_vote l).number ≡ 0 → SignedNow signing l
  signed_now e = record {
    makes = refl;
    signs = cond_true _ _ (eq-eqb (sign_no_vote l).number 0 e);
    later = (signing_passed l why).later;
    unmade = (signing_passed l why).unmade;
    marked = ap (λ (x : ℕ). marks_round x (signing_round l)) word ∙ marks_here (signed_rounds l) (signing_round l) range.0 range.1;
  }
    where
      -- nothing refused it
      why : number_of (sign_refusal l) ≡ 0
      why = unfold sign_no_vote in outcome_zero (sign_refusal l) l (put_own_no_vote l (signing_round l)) e

      range : (1 ≤ signing_round l) × (signing_round l ≤ rounds)
      range = signing_round_lem l (signing_passed l why)

      -- word 7
      word : signed_rounds (sign_no_vote l).words ≡ add (signed_rounds l) (signing_round l - 1)
      word = unfold sign_no_vote in
          ap (λ (k : List ℕ). signed_rounds k) (words_yes (sign_refusal l) l (put_own_no_vote l (signing_round l)) why)
          ∙ signed_here l (signing_round l) (omega (arith, S.size))

  -- what a call did
  pub did : (c : Call) → Did c l
  did (making digest) = ⊎_elim
      (λ e. made (made_now digest (eqb-true _ 0 e)))
      (λ e. neither (cond_false _ _ e) refl)
      (which (eqb (propose_vertex l digest.words).outcome.number 0))
  did signing = ⊎_elim
      (λ e. signed (signed_now (eqb-true _ 0 e)))
      (λ e. neither refl (cond_false _ _ e))
      (which (eqb (sign_no_vote l).number 0))
  did (opening n own) = neither refl refl
  did (vertex rec) = neither refl refl
  did (vertex_with s rec) = neither refl refl
  did (first_message rec) = neither refl refl
  did (timeout r p) = neither refl refl
  did (no_vote r p) = neither refl refl
  did (bundle r mask) = neither refl refl
  did status = neither refl refl
  did (ask_leader_list k) = neither refl refl
  did (ask_journal_list k) = neither refl refl
  did (hand_leader_list k) = neither refl refl
  did (hand_journal_list k) = neither refl refl

-- ---- what a list of calls made and signed, by its first call

module _ (c : Call) (calls : List Call) (l : List ℕ) where
  -- the records, with what the first call made
  pub all_made_lem : {x : List Made} → made_by c l ≡ x → all_made l (c ∷ calls) ≡ x ++ all_made (outcome_of c l).words calls
  unfolding all_made
  all_made_lem e = ap (λ (y : List Made). y ++ all_made (outcome_of c l).words calls) e

  -- so without their states
  pub made_records_lem : {x : List Made} → made_by c l ≡ x
      → made_records l (c ∷ calls) ≡ map (λ (m : Made). m.words) (x ++ all_made (outcome_of c l).words calls)
  made_records_lem e = ap (λ (y : List Made). map (λ (m : Made). m.words) y) (all_made_lem e)

  -- the rounds signed
  pub all_signed : {x : List ℕ} → signed_by c l ≡ x → rounds_signed l (c ∷ calls) ≡ x ++ rounds_signed (outcome_of c l).words calls
  unfolding rounds_signed
  all_signed e = ap (λ (y : List ℕ). y ++ rounds_signed (outcome_of c l).words calls) e
