-- Questions 1, 3 and 16 in turn: laws of `Asking`.
use Rattle.proposing.proofs.Asking.{member_state, member_size, member_watcher, member_own}
use mathlib.Core.Path.{◌≡◌, sym, ◌∙◌}
use lib.ListN.{length}
use Rattle.replica.specs.Layout.{state_size}
use borrow.Author.Rules.{rules}
use Rattle.record.proofs.Turn.{raised, was_err, was_ok}
use Rattle.proposing.proofs.own.check_member.Goals as goal
use Rattle.proposing.proofs.own.check_member.Goals.{In_ok-check_state}

size : (c : In_ok-check_state) → length c.args.state.now ≡ state_size
size c = member_size c.args.state.now _ c.check_state.ensures (was_ok c.in_ok-check_state.was)

pub returns-in_err-check_state : goal.returns-in_err-check_state
returns-in_err-check_state c =
    raised _ c.from_residual.ensures.1 ∙ sym c.in_err-check_state.was
    ∙ member_state c.args.state.now _ c.check_state.ensures (was_err c.in_err-check_state.was)

pub returns-then-state-eq-WATCHER : goal.returns-then-state-eq-WATCHER
returns-then-state-eq-WATCHER c = member_watcher c.args.state.now _ c.check_state.ensures (was_ok c.in_ok-check_state.was) c.if-state-eq-WATCHER.true

pub returns : goal.returns
returns c = member_own c.args.state.now _ c.check_state.ensures (was_ok c.in_ok-check_state.was) c.if-state-eq-WATCHER.false

pub bounds-state-5 : goal.bounds-state-5
bounds-state-5 c = let k = size (goal.at.bounds-state-5 c).In_ok-check_state in search rules
