-- All questions in turn: laws of `Asking`.
use mathlib.Core.Bool.{not}
use mathlib.Core.Path.{ap, sym, ◌∙◌}
use Prim.Native.Nat.{◌≤◌}
use Rattle.replica.specs.State.{current_round}
use Rattle.proposing.proofs.Kept.{MemberKnown}
use Rattle.proposing.proofs.Asking.{member_known, opened, sign_stopped, sign_not, sign_later, sign_again, sign_new}
use borrow.Author.Rules.{rules}
use Rattle.record.proofs.Turn.{raised, was_err, was_ok}
use Rattle.proposing.proofs.signing.check_sign.Goals as goal
use Rattle.proposing.proofs.signing.check_sign.Goals.{Else-not-may_sign, In_ok-check_member}

-- the state is a member's
known : (c : In_ok-check_member) → MemberKnown c.args.state.now
known c = member_known c.args.state.now _ c.check_member.ensures (was_ok c.in_ok-check_member.was)

-- and the current round is not the first
later : (c : Else-not-may_sign) → 2 ≤ current_round c.args.state.now
later c =
    sign_later c.args.state.now _ c.check_member.ensures (was_ok c.in_ok-check_member.was) _ c.may_sign.ensures (ap not c.if-not-may_sign.false)

pub returns-in_err-check_member : goal.returns-in_err-check_member
returns-in_err-check_member c =
    raised _ c.from_residual.ensures.1 ∙ sym c.in_err-check_member.was
    ∙ sign_stopped c.args.state.now _ c.check_member.ensures (was_err c.in_err-check_member.was)

pub bounds-state-1 : goal.bounds-state-1
bounds-state-1 c = let k = known (goal.at.bounds-state-1 c).In_ok-check_member in search rules

pub bounds-state-0 : goal.bounds-state-0
bounds-state-0 c = let k = known (goal.at.bounds-state-0 c).In_ok-check_member in search rules

pub may_sign-requires : goal.may_sign-requires
may_sign-requires c = opened c.args.state.now (known (goal.at.may_sign-requires c).In_ok-check_member)

pub returns-then-not-may_sign : goal.returns-then-not-may_sign
returns-then-not-may_sign c = sign_not c.args.state.now _ c.check_member.ensures (was_ok c.in_ok-check_member.was) _ c.may_sign.ensures (ap not
    c.if-not-may_sign.true)

pub bounds-state-7 : goal.bounds-state-7
bounds-state-7 c = let k = known (goal.at.bounds-state-7 c).In_ok-check_member in search rules

pub overflow_sub-round : goal.overflow_sub-round
overflow_sub-round c = let k = later (goal.at.overflow_sub-round c).Else-not-may_sign in search rules

pub returns-then-marks_round : goal.returns-then-marks_round
returns-then-marks_round c =
    sign_again c.args.state.now _ c.check_member.ensures (was_ok c.in_ok-check_member.was) _ c.may_sign.ensures
    (ap not c.if-not-may_sign.false) _ c.marks_round.ensures c.if-marks_round.true

pub returns : goal.returns
returns c =
    sign_new c.args.state.now _ c.check_member.ensures (was_ok c.in_ok-check_member.was) _ c.may_sign.ensures
    (ap not c.if-not-may_sign.false) _ c.marks_round.ensures c.if-marks_round.false
