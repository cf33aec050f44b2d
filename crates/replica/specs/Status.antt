-- The questions of the state, and status (01: read the head).
use Rattle.std.specs.Prelude.{List, [], ◌∷◌, ℕ, eqb, length, Result, Ok, Err}
use Rattle.record.specs.Refusals.{Verdict, Question, first_no}
use Rattle.record.specs.declared.refusal.Refusal.{Refusal}
use Rattle.record.specs.declared.refusal.Refusal.TheVariants.{StateSize, Malformed}
use Rattle.replica.specs.Layout.{state_size}
use Rattle.replica.specs.State.{current_round, committed_round, leader_count, journal_count}
use Rattle.replica.specs.WellFormed.{well_formed}
use Rattle.replica.specs.declared.answer.Status.{Status}

-- questions 1 and 3, which every call but opening asks first
abbrev pub state_questions : List ℕ → List Question
state_questions l = (eqb (length l) state_size, StateSize) ∷ (well_formed l, Malformed) ∷ []

-- words 1 to 4, or the refusal
abbrev pub head_if : Verdict → List ℕ → Result Status Refusal
head_if (Ok passed) l =
    Ok (record {
      current_round = current_round l;
      committed_round = committed_round l;
      leader_count = leader_count l;
      journal_count = journal_count l;
    })
head_if (Err why) l = Err why

abbrev pub status_of : List ℕ → Result Status Refusal
status_of l = head_if (first_no (state_questions l)) l
