-- The witness of the conduct claim, computed by its short run. Assumes nothing.
use mathlib.Core.Path.{◌≡◌, refl, sym, ap, ap₂, ◌∙◌}
use mathlib.Core.Bool.{cond}
use mathlib.Core.Logic.{⊎_elim}
use mathlib.Core.List.{List, [], ◌∷◌, ◌++◌, map, map-append}
use Prim.Native.Nat.{ℕ}
use native.Mathlib.Omega.{arith}
use lib.Count.{ones, ones_in}
use lib.Dec.{eqb}
use Rattle.record.specs.Below.{all, any, count, select, least, longest}
use Rattle.record.specs.Members.{legal, leader_at, has, within, meets, is_round}
use Rattle.record.specs.Refusals.{first_no}
use Rattle.record.specs.Layout.{strong_of, timeouts_of, no_votes_of, weak_count_of, weak_of}
use Rattle.record.specs.Questions.{masks_ok, strong_ok, lacks_leader, quorum_if, timeouts_ok, no_votes_ok, weak_id_ok, rises, slot_ok, weak_ok}
use Rattle.record.specs.Questions.{signer_questions, record_questions}
use Rattle.record.proofs.Booleans.{which, cond_true, cond_false}
use Rattle.protocol.specs.Dag.{voter, backed}
use Rattle.protocol.specs.Paths.{path, history_up_to}
use Rattle.protocol.specs.Chain.{chain, walk, seats}
use Rattle.replica.specs.State.{vertices, firsts, add_member, add_members}
use Rattle.replica.specs.State.{width, leader_index, last_place}
use Rattle.replica.specs.Parents.{is_parent, missing, parents_held}
use Rattle.replica.specs.Outcome.{Outcome, outcome}
use Rattle.replica.specs.Opening.{opened, open_state}
use Rattle.replica.proofs.Formed.{WellFormed}
use Rattle.replica.proofs.Opened.{opened_size, opened_formed}
use Rattle.commits.specs.Commit.{passable, highest_passable, raise_round, append_leader, append_leaders, enter, enter_all, order_leader}
use Rattle.commits.specs.Commit.{order_leaders, grows, is_ready}
use Rattle.commits.specs.Commit.{committable}
use Rattle.ordering.specs.Calls.{same_body, put_vertex, carry_timeouts, is_new}
use Rattle.proposing.specs.Own.{marks_round, mark_round}
use Rattle.proposing.specs.Making.{parents_in, made_strong, made_timeouts, made_no_votes, is_unreached, made_record, making_questions, propose_vertex}
use Rattle.proposing.specs.Signing.{signing_round, may_sign, put_own_no_vote}
use Rattle.runs.specs.Call.{Call, opening, vertex, vertex_with, first_message, timeout, no_vote, bundle, status, ask_leader_list, ask_journal_list}
use Rattle.runs.specs.Call.{hand_leader_list, hand_journal_list, making, signing, outcome_of, all_allowed}
use Rattle.runs.proofs.Asked.{four, open_yes, open_taken}
use Rattle.runs.proofs.Short.{line, listed, by_list, commit_by, once_by, short_commits, short_vertex, short_note, short_making, short_made}
use Rattle.runs.proofs.Short.{short_signing, short_of}
use Rattle.runs.proofs.Short.{short_take, short_bundle, short_is, made_is, formed_after}
use Rattle.conduct.specs.Made.{Made, made_by, signed_by, all_made, rounds_signed, made_records}
use Rattle.conduct.specs.Witness.{own, start, first, voting, against, calls, Witness}

-- ---- what a list of calls on a formed state made and signed

-- the records of one call
short_record : Call → List ℕ → List (List ℕ)
short_record (making digest) l = cond (eqb (short_of (making digest) l).number 0) (short_made l digest.words ∷ []) []
short_record (opening n o) l = []
short_record (vertex rec) l = []
short_record (vertex_with s rec) l = []
short_record (first_message rec) l = []
short_record (timeout r p) l = []
short_record (no_vote r p) l = []
short_record (bundle r mask) l = []
short_record status l = []
short_record (ask_leader_list k) l = []
short_record (ask_journal_list k) l = []
short_record (hand_leader_list k) l = []
short_record (hand_journal_list k) l = []
short_record signing l = []

-- the round that it signed for
short_round : Call → List ℕ → List ℕ
short_round signing l = cond (eqb (short_of signing l).number 0) (signing_round l ∷ []) []
short_round (opening n o) l = []
short_round (vertex rec) l = []
short_round (vertex_with s rec) l = []
short_round (first_message rec) l = []
short_round (timeout r p) l = []
short_round (no_vote r p) l = []
short_round (bundle r mask) l = []
short_round status l = []
short_round (ask_leader_list k) l = []
short_round (ask_journal_list k) l = []
short_round (hand_leader_list k) l = []
short_round (hand_journal_list k) l = []
short_round (making digest) l = []

-- those of a list of calls
short_records : List ℕ → List Call → List (List ℕ)
short_records l [] = []
short_records l (c ∷ calls) = short_record c l ++ short_records (short_of c l).words calls

short_rounds : List ℕ → List Call → List ℕ
short_rounds l [] = []
short_rounds l (c ∷ calls) = short_round c l ++ short_rounds (short_of c l).words calls

module _ (l : List ℕ) (S : WellFormed l) where
  -- what one call made
  record_is : (c : Call) → map (λ (m : Made). m.words) (made_by c l) ≡ short_record c l
  unfolding short_record
  record_is (making digest) =
      ⊎_elim
      (λ e. ap (map (λ (m : Made). m.words)) (cond_true _ _ e) ∙ sym (cond_true _ _ e))
      (λ e. ap (map (λ (m : Made). m.words)) (cond_false _ _ e) ∙ sym (cond_false _ _ e))
      (which (eqb (propose_vertex l digest.words).outcome.number 0))
      ∙ ap₂ (λ (o : Outcome) (x : List ℕ). cond (eqb o.number 0) (x ∷ []) []) (short_is l S (making digest)) (made_is l S digest.words)
  record_is (opening n o) = refl
  record_is (vertex rec) = refl
  record_is (vertex_with s rec) = refl
  record_is (first_message rec) = refl
  record_is (timeout r p) = refl
  record_is (no_vote r p) = refl
  record_is (bundle r mask) = refl
  record_is status = refl
  record_is (ask_leader_list k) = refl
  record_is (ask_journal_list k) = refl
  record_is (hand_leader_list k) = refl
  record_is (hand_journal_list k) = refl
  record_is signing = refl

  -- and signed
  round_is : (c : Call) → signed_by c l ≡ short_round c l
  unfolding short_round
  round_is signing = ap (λ (o : Outcome). cond (eqb o.number 0) (signing_round l ∷ []) []) (short_is l S signing)
  round_is (opening n o) = refl
  round_is (vertex rec) = refl
  round_is (vertex_with s rec) = refl
  round_is (first_message rec) = refl
  round_is (timeout r p) = refl
  round_is (no_vote r p) = refl
  round_is (bundle r mask) = refl
  round_is status = refl
  round_is (ask_leader_list k) = refl
  round_is (ask_journal_list k) = refl
  round_is (hand_leader_list k) = refl
  round_is (hand_journal_list k) = refl
  round_is (making digest) = refl

-- so of a list
records_are : (calls : List Call) (l : List ℕ) → WellFormed l → made_records l calls ≡ short_records l calls
unfolding all_made short_records
records_are [] l S = refl
records_are (c ∷ calls) l S =
    map-append (λ (m : Made). m.words) (made_by c l) (all_made (outcome_of c l).words calls)
    ∙ ap₂ ◌++◌ (record_is l S c)
    (records_are calls (outcome_of c l).words (formed_after l S c) ∙ ap (λ (o : Outcome). short_records o.words calls) (short_is l S c))

rounds_are : (calls : List Call) (l : List ℕ) → WellFormed l → rounds_signed l calls ≡ short_rounds l calls
unfolding rounds_signed short_rounds
rounds_are [] l S = refl
rounds_are (c ∷ calls) l S =
    ap₂ ◌++◌ (round_is l S c)
    (rounds_are calls (outcome_of c l).words (formed_after l S c) ∙ ap (λ (o : Outcome). short_rounds o.words calls) (short_is l S c))

-- ---- the calls of the witness

-- the state is opened
opening_four : (open_state (opened 4 own) 4 own).number ≡ 0
opening_four = open_taken (opened 4 own) 4 own (opened_size 4 own) four (omega arith)

-- what it is then
start_is : start ≡ opened 4 own
start_is = (open_yes (opened 4 own) 4 own opening_four).2

start_formed : WellFormed (opened 4 own)
start_formed = opened_formed 4 own four (omega arith)

-- what they made and signed: this computes it
both : List (List ℕ) × List ℕ
both = (short_records (opened 4 own) calls, short_rounds (opened 4 own) calls)

computed : both ≡ (first ∷ voting ∷ against ∷ [], 2 ∷ [])
unfolding both short_records short_rounds short_record short_round calls short_of short_take short_vertex short_note short_bundle short_making
    short_made short_signing opened outcome
    legal leader_at has within meets
    first_no strong_of timeouts_of no_votes_of weak_count_of weak_of is_round masks_ok strong_ok lacks_leader quorum_if timeouts_ok no_votes_ok weak_id_ok rises
    slot_ok weak_ok signer_questions record_questions
    all any count select least voter backed path history_up_to chain walk seats longest width leader_index last_place vertices firsts is_parent missing
    parents_held passable
    highest_passable raise_round append_leader append_leaders enter enter_all order_leader order_leaders line listed by_list commit_by once_by short_commits
    grows is_ready committable add_member add_members same_body put_vertex carry_timeouts is_new ones ones_in
    marks_round mark_round parents_in made_strong made_timeouts made_no_votes is_unreached made_record making_questions may_sign put_own_no_vote
computed = refl

-- The witness.
pub witness : Witness
unfolding both
witness = record {
  opens = opening_four;
  allowed_calls = unfold calls all_allowed in refl;
  made = ap (λ (l : List ℕ). made_records l calls) start_is ∙ records_are calls (opened 4 own) start_formed
      ∙ ap (λ (w : List (List ℕ) × List ℕ). w.0) computed;
  signed = ap (λ (l : List ℕ). rounds_signed l calls) start_is ∙ rounds_are calls (opened 4 own) start_formed
      ∙ ap (λ (w : List (List ℕ) × List ℕ). w.1) computed;
  votes_for = unfold strong_of leader_at has in refl;
  votes_against = unfold strong_of leader_at has in refl;
}
