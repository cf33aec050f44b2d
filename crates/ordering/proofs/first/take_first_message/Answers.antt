-- `take_first_message` meets its contract. Assumes nothing.
use Rattle.ordering.proofs.Taking.{first_refused, FirstTaken, first_taken}
use Rattle.ordering.proofs.Turns.{state_stops, state_past, state_formed}
use Rattle.ordering.specs.Calls.{first_questions}
use Rattle.ordering.specs.Inner.{hearing_questions}
use Rattle.record.specs.Refusals.{Question, first_no}
use Rattle.record.specs.Layout.{round_of, source_of, body_of}
use Rattle.replica.specs.State.{member_count}
use Rattle.replica.proofs.Formed.{WellFormed}
use mathlib.Core.Path.{◌≡◌}
use mathlib.Core.List.{List}
use borrow.Author.Rules.{rules}
use Rattle.record.proofs.Turn.{raised, was_err, was_ok}
use Rattle.ordering.proofs.first.take_first_message.Goals as goal
use Rattle.ordering.proofs.first.take_first_message.Goals.{After-check_first, In_ok-check_state, In_ok-check_first, Start}

-- the questions after those of the state
abbrev after : Start → List Question
after s = hearing_questions (s.args.state.now) (member_count (s.args.state.now)) (s.args.rec.now)

-- the state's questions are passed
state : (c : In_ok-check_state) → WellFormed c.args.state.now
state c = state_formed _ _ c.check_state.ensures (was_ok c.in_ok-check_state.was)

-- so those of the message decide
asked : (c : After-check_first) → c.check_first.result
    ≡ first_no (first_questions c.args.state.now (round_of c.args.rec.now) (source_of c.args.rec.now) (body_of c.args.rec.now))
asked c =
    state_past c.args.state.now _ c.check_state.ensures (after (goal.at.After-check_first c).Start)
    (was_ok c.in_ok-check_state.was) _ (rw c.of-group.ensures at c.check_first.ensures)

-- and stopped nothing
known : (c : In_ok-check_first) → FirstTaken c.args.state.now c.args.rec.now
known c = first_taken _ _ _ (asked (goal.at.In_ok-check_first c).After-check_first) (was_ok c.in_ok-check_first.was)

pub returns-in_err-check_state : goal.returns-in_err-check_state
returns-in_err-check_state c =
    let stopped = was_err c.in_err-check_state.was in
    first_refused c.args.state.now c.args.rec.now _
    (state_stops c.args.state.now _ c.check_state.ensures (after (goal.at.returns-in_err-check_state c).Start) stopped)
    _ c.in_err-check_state.was _ (raised _ c.from_residual.ensures.1)

pub bounds-state-0 : goal.bounds-state-0
bounds-state-0 c = let k = state (goal.at.bounds-state-0 c).In_ok-check_state in search rules

pub check_first-requires : goal.check_first-requires
check_first-requires c = let k = state (goal.at.check_first-requires c).In_ok-check_state in search rules

pub returns-in_err-check_first : goal.returns-in_err-check_first
returns-in_err-check_first c =
    first_refused c.args.state.now c.args.rec.now _ (asked (goal.at.returns-in_err-check_first c).After-check_first)
    _ c.in_err-check_first.was _ (raised _ c.from_residual-in_err-check_first.ensures.1)

pub bounds-rec-0 : goal.bounds-rec-0
bounds-rec-0 c = let k = known (goal.at.bounds-rec-0 c).In_ok-check_first in search rules

pub bounds-rec-1 : goal.bounds-rec-1
bounds-rec-1 c = let k = known (goal.at.bounds-rec-1 c).In_ok-check_first in search rules

pub bounds-rec : goal.bounds-rec
bounds-rec c = let k = known (goal.at.bounds-rec c).In_ok-check_first in search rules

pub hear_record-requires : goal.hear_record-requires
hear_record-requires c = rw c.of-group.ensures ((known (goal.at.hear_record-requires c).In_ok-check_first).hearing)

pub settle-requires : goal.settle-requires
settle-requires c =
    let ready = (known (goal.at.settle-requires c).In_ok-check_first).heard _ c.hear_record.ensures in
    search rules

pub returns : goal.returns
returns c =
    (known (goal.at.returns c).In_ok-check_first).done _ _ c.hear_record.ensures c.settle.ensures
