-- `take_vertex` meets its contract. Assumes nothing.
use Rattle.ordering.proofs.Taking.{vertex_refused}
use Rattle.ordering.proofs.Turns.{state_stops, state_past, state_formed}
use Rattle.ordering.specs.Calls.{vertex_questions, admission_questions}
use Rattle.record.specs.Refusals.{number_of, Question, first_no}
use Rattle.record.specs.Layout.{round_of, source_of, body_of}
use Rattle.replica.specs.State.{member_count}
use Rattle.replica.proofs.Formed.{WellFormed}
use mathlib.Core.Path.{◌≡◌, sym, ap, ◌∙◌}
use mathlib.Core.List.{List}
use borrow.Author.Rules.{rules}
use Rattle.record.proofs.Turn.{raised, was_err, was_ok}
use Rattle.ordering.proofs.vertex.take_vertex.Goals as goal
use Rattle.ordering.proofs.vertex.take_vertex.Goals.{After-check_vertex, In_ok-check_state, Start}

-- the questions after those of the state
abbrev after : Start → List Question
after s =
    admission_questions (s.args.state.now) (member_count (s.args.state.now)) (round_of (s.args.rec.now)) (source_of (s.args.rec.now)) (body_of (s.args.rec.now))

-- the state's questions are passed
state : (c : In_ok-check_state) → WellFormed c.args.state.now
state c = state_formed _ _ c.check_state.ensures (was_ok c.in_ok-check_state.was)

-- so those of the vertex decide
asked : (c : After-check_vertex) → c.check_vertex.result
    ≡ first_no (vertex_questions c.args.state.now (round_of c.args.rec.now) (source_of c.args.rec.now) (body_of c.args.rec.now))
asked c =
    state_past c.args.state.now _ c.check_state.ensures (after (goal.at.After-check_vertex c).Start)
    (was_ok c.in_ok-check_state.was) _ (rw c.of-group.ensures at c.check_vertex.ensures)

pub returns-in_err-check_state : goal.returns-in_err-check_state
returns-in_err-check_state c =
    let stopped = was_err c.in_err-check_state.was in
    vertex_refused c.args.state.now c.args.rec.now _
    (state_stops c.args.state.now _ c.check_state.ensures (after (goal.at.returns-in_err-check_state c).Start) stopped)
    _ c.in_err-check_state.was _ (raised _ c.from_residual.ensures.1)

pub bounds-state-0 : goal.bounds-state-0
bounds-state-0 c = let k = state (goal.at.bounds-state-0 c).In_ok-check_state in search rules

pub check_vertex-requires : goal.check_vertex-requires
check_vertex-requires c = let k = state (goal.at.check_vertex-requires c).In_ok-check_state in search rules

pub returns-in_err-check_vertex : goal.returns-in_err-check_vertex
returns-in_err-check_vertex c =
    vertex_refused c.args.state.now c.args.rec.now _ (asked (goal.at.returns-in_err-check_vertex c).After-check_vertex)
    _ c.in_err-check_vertex.was _ (raised _ c.from_residual-in_err-check_vertex.ensures.1)

pub admit_vertex-requires : goal.admit_vertex-requires
admit_vertex-requires c =
    let a : After-check_vertex = (goal.at.admit_vertex-requires c).After-check_vertex in
    record { members = c.of-group.ensures; passed = ap number_of (sym (asked a)) ∙ was_ok c.in_ok-check_vertex.was }

pub returns : goal.returns
returns c = c.admit_vertex.ensures
