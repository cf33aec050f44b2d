-- `take_vertex_with` meets its contract. Assumes nothing.
use mathlib.Core.Path.{◌≡◌, refl, sym, ap, ◌∙◌}
use mathlib.Core.List.{List}
use borrow.Author.Rules.{rules}
use Rattle.record.proofs.Turn.{raised, was_err, was_ok}
use Rattle.record.specs.Refusals.{is_missing, Question, first_no}
use Rattle.replica.specs.State.{member_count}
use Rattle.replica.proofs.Formed.{WellFormed}
use Rattle.ordering.proofs.Turns.{state_stops, state_past, state_formed}
use Rattle.pending.specs.Inner.{keep_early}
use Rattle.pending.specs.Early.{later_questions, buffered_questions}
use Rattle.pending.proofs.Calling.{state_no_parent, early_other, with_refused, with_admitted, Asked, asked}
use Rattle.pending.proofs.early.take_vertex_with.Goals as goal
use Rattle.pending.proofs.early.take_vertex_with.Goals.{After-check_early, In_ok-check_state, Start}

-- the questions after those of the state
abbrev after : Start → List Question
after s = later_questions (s.args.state.now) (s.args.buffer.now) (member_count (s.args.state.now)) (s.args.rec.now)

pub returns-in_err-check_state : goal.returns-in_err-check_state
returns-in_err-check_state c =
    let s : Start = (goal.at.returns-in_err-check_state c).Start in
    let stopped = was_err c.in_err-check_state.was in
    let other = ap is_missing (sym c.in_err-check_state.was ∙ c.check_state.ensures) ∙ state_no_parent c.args.state.now in
    with_refused c.args.state.now c.args.buffer.now c.args.rec.now _ (state_stops c.args.state.now _ c.check_state.ensures (after s) stopped) stopped _ _
    (early_other c.args.buffer.now c.args.rec.now _ other ∙ ap (keep_early c.args.buffer.now c.args.rec.now) (sym c.in_err-check_state.was))
    _ (raised _ c.from_residual.ensures.1)

-- the state's questions are passed
state : (c : In_ok-check_state) → WellFormed c.args.state.now
state c = state_formed _ _ c.check_state.ensures (was_ok c.in_ok-check_state.was)

-- so the others decide
decide : (c : After-check_early) → c.check_early.result ≡ first_no (buffered_questions c.args.state.now c.args.buffer.now c.args.rec.now)
decide c =
    let s : Start = (goal.at.After-check_early c).Start in
    state_past c.args.state.now _ c.check_state.ensures (after s) (was_ok c.in_ok-check_state.was) _ (rw c.of-group.ensures at c.check_early.ensures)

known : (c : After-check_early) → Asked c.args.state.now c.args.buffer.now c.args.rec.now c.check_early.result
known c = asked _ _ _ (state (goal.at.After-check_early c).In_ok-check_state) _ (rw c.of-group.ensures at c.check_early.ensures)

pub returns-in-Err : goal.returns-in-Err
returns-in-Err c =
    with_refused c.args.state.now c.args.buffer.now c.args.rec.now _ (decide (goal.at.returns-in-Err c).After-check_early)
    (was_err c.in-Err.is) _ _ (c.keep_early.ensures ∙ ap (keep_early c.args.buffer.now c.args.rec.now) (sym c.in-Err.is)) _ refl

pub admit_with-requires : goal.admit_with-requires
admit_with-requires c =
    let k = known (goal.at.admit_with-requires c).After-check_early in
    (record { members = c.of-group.ensures; passed = k.passes (cc) }, rw c.of-group.ensures (k.buffer (cc)))

pub returns : goal.returns
returns c =
    c.admit_with.ensures ∙ with_admitted c.args.state.now c.args.buffer.now c.args.rec.now _ (decide (goal.at.returns c).After-check_early) (cc)

pub bounds-state-0 : goal.bounds-state-0
bounds-state-0 c = let k = state (goal.at.bounds-state-0 c).In_ok-check_state in search rules

pub check_early-requires : goal.check_early-requires
check_early-requires c = let k = state (goal.at.check_early-requires c).In_ok-check_state in search rules

pub keep_early-requires : goal.keep_early-requires
keep_early-requires c = (known (goal.at.keep_early-requires c).After-check_early).early _ c.in-Err.is
