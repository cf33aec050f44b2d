-- The questions in turn: `ask_state`, `ask_past` and `ask_done` of `ListLaws`.
use mathlib.Core.Path.{◌≡◌, refl}
use lib.ListN.{length}
use borrow.Author.Rules.{rules}
use Rattle.record.proofs.Turn.{raised}
use Rattle.replica.proofs.ListLaws.{ask_state, ask_size, ask_past, ask_done}
use Rattle.replica.specs.Layout.{state_size}
use Rattle.replica.proofs.lists.ask_list.Goals as goal
use Rattle.replica.proofs.lists.ask_list.Goals.{In_ok-check_state}

pub returns-in_err-check_state : goal.returns-in_err-check_state
returns-in_err-check_state c =
    ask_state _ _ c.check_state.ensures _ c.in_err-check_state.was _ _ _ (raised _ c.from_residual.ensures.1)

known : (c : In_ok-check_state) → length c.args.state.now ≡ state_size
known c = ask_size _ _ c.check_state.ensures c.in_ok-check_state.was

pub bounds-state-count : goal.bounds-state-count
bounds-state-count c = let k = known (goal.at.bounds-state-count c).In_ok-check_state in search rules

pub returns-then-state-count : goal.returns-then-state-count
returns-then-state-count c = ask_past _ _ c.check_state.ensures c.in_ok-check_state.was _ _ c.if-state-count.true _ refl

pub returns : goal.returns
returns c = ask_done _ _ c.check_state.ensures c.in_ok-check_state.was _ _ c.if-state-count.false
