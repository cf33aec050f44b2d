-- A vertex taken with a pending buffer.
use Rattle.std.specs.Prelude.{false, cond, not, List, [], ◌∷◌, ◌++◌, ℕ, eqb, ltb, length, Result, Ok, Err}
use Rattle.record.specs.Refusals.{Verdict, no_refusal, number_of, missing_number, is_missing, Question, first_no}
use Rattle.record.specs.Layout.{round_of, source_of, body_of}
use Rattle.record.specs.declared.refusal.Refusal.{Refusal}
use Rattle.record.specs.declared.refusal.Refusal.TheVariants.{Duplicate, Conflict, Buffer, BufferFull}
use Rattle.replica.specs.State.{member_count}
use Rattle.replica.specs.Outcome.{Outcome, told, unchanged, admitted}
use Rattle.replica.specs.Status.{state_questions}
use Rattle.replica.specs.declared.answer.Added.{Added}
use Rattle.ordering.specs.Calls.{admission_questions, take_vertex}
use Rattle.pending.specs.Layout.{buffer_slots}
use Rattle.pending.specs.Buffer.{same_record, same_id, some, put_in, records_in, buffer_of, buffer_ok}
use Rattle.pending.specs.Passes.{Fate, joins, stays, leaves, Trial, Passed, release}

-- ---- the questions

-- 19, and 4 to 14 as a plain vertex call asks them, among n members
abbrev pub later_questions : List ℕ → List ℕ → ℕ → List ℕ → List Question
later_questions l s n rec = (buffer_ok n s, Buffer) ∷ admission_questions l n (round_of rec) (source_of rec) (body_of rec)

-- 1 and 3, and then these
abbrev pub buffered_questions : List ℕ → List ℕ → List ℕ → List Question
buffered_questions l s rec = state_questions l ++ later_questions l s (member_count l) rec

-- a waiting record of the same id gives 12 if it is the same and 13 if not
abbrev pub waiting_questions : List (List ℕ) → List ℕ → List Question
waiting_questions recs rec = (not (some (same_record rec) recs), Duplicate) ∷ (not (some (same_id rec) recs), Conflict) ∷ []

-- In place of 14: a waiting record of the same id gives 12 or 13, 32 others give 20, and else it is 14.
abbrev pub early_questions : List (List ℕ) → List ℕ → Refusal → List Question
early_questions recs rec why = waiting_questions recs rec ++ ((ltb (length recs) buffer_slots, BufferFull) ∷ (false, why) ∷ [])

unfoldable pub in_place : List (List ℕ) → List ℕ → Verdict → Verdict
in_place recs rec (Ok passed) = no_refusal
in_place recs rec (Err why) = cond (is_missing (Err why)) (first_no (early_questions recs rec why)) (Err why)

abbrev pub refusal_with : List ℕ → List ℕ → List ℕ → Verdict
refusal_with l s rec = in_place (records_in s) rec (first_no (buffered_questions l s rec))

-- ---- the call

-- 0 admits a waiting record, with 14 it waits on, and with any other number it is dropped
abbrev pub fate_of : ℕ → Fate
fate_of number = cond (eqb number 0) joins (cond (eqb number missing_number) stays leaves)

-- it is tried as a plain vertex call
abbrev pub try_vertex : List ℕ → List ℕ → Trial (List ℕ)
try_vertex l rec = record { fate = fate_of (take_vertex l rec).number; after = (take_vertex l rec).words }

-- the passes after the admission of rec: over the waiting records as lent, on the words that the plain vertex call leaves
abbrev pub release_after : List ℕ → List ℕ → List ℕ → Passed (List ℕ)
release_after l s rec = release try_vertex (take_vertex l rec).words (records_in s)

-- what the call ends in: the outcome on the state, and the words of the buffer
pub record Ending : Type 0 where
  pub outcome : Outcome
  pub buffer : List ℕ

abbrev pub told_with : Result Added Refusal → List ℕ → List ℕ → Ending
told_with a l s = record { outcome = told a l; buffer = s }

-- admitted: what was added is the growth of the lists over the record and the passes, and those that wait on are the buffer
abbrev pub admitted_with : List ℕ → Passed (List ℕ) → Ending
admitted_with l p = record { outcome = admitted l p.after; buffer = buffer_of p.waiting }

-- refused: the state stays; with 14 the record is put in the buffer, and with any other number that stays too
abbrev pub refused_with : Verdict → List ℕ → List ℕ → List ℕ → Ending
refused_with why l s rec = record { outcome = unchanged why l; buffer = cond (is_missing why) (buffer_of (put_in rec (records_in s))) s }

unfoldable pub take_vertex_with : List ℕ → List ℕ → List ℕ → Ending
take_vertex_with l s rec =
    cond (eqb (number_of (refusal_with l s rec)) 0)
    (admitted_with l (release_after l s rec))
    (refused_with (refusal_with l s rec) l s rec)
