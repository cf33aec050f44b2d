-- `sign_refused` and `sign_taken` of `Asking`.
use Rattle.proposing.proofs.Asking.{sign_refused, SignTaken, sign_taken}
use borrow.Author.Rules.{rules}
use Rattle.record.proofs.Turn.{raised, was_ok}
use Rattle.proposing.proofs.signing.sign_no_vote.Goals as goal
use Rattle.proposing.proofs.signing.sign_no_vote.Goals.{In_ok-check_sign}

-- no question stopped the call
known : (c : In_ok-check_sign) → SignTaken c.args.state.now
known c = sign_taken _ _ c.check_sign.ensures (was_ok c.in_ok-check_sign.was)

pub returns-in_err-check_sign : goal.returns-in_err-check_sign
returns-in_err-check_sign c = sign_refused _ _ c.check_sign.ensures _ c.in_err-check_sign.was _ (raised _ c.from_residual.ensures.1)

pub bounds-state-1 : goal.bounds-state-1
bounds-state-1 c = let k = known (goal.at.bounds-state-1 c).In_ok-check_sign in search rules

pub overflow_sub-round : goal.overflow_sub-round
overflow_sub-round c = let k = known (goal.at.overflow_sub-round c).In_ok-check_sign in search rules

pub bounds-state-5 : goal.bounds-state-5
bounds-state-5 c = let k = known (goal.at.bounds-state-5 c).In_ok-check_sign in search rules

pub overflow_sub-own : goal.overflow_sub-own
overflow_sub-own c = let k = known (goal.at.overflow_sub-own c).In_ok-check_sign in search rules

pub mark_round-requires : goal.mark_round-requires
mark_round-requires c = let k = known (goal.at.mark_round-requires c).In_ok-check_sign in search rules

pub masks_at-at-requires : goal.masks_at-at-requires
masks_at-at-requires c = let k = known (goal.at.masks_at-at-requires c).In_ok-check_sign in search rules

pub overflow_add-at : goal.overflow_add-at
overflow_add-at c = let k = known (goal.at.overflow_add-at c).In_ok-check_sign in search rules

pub add_member-requires : goal.add_member-requires
add_member-requires c = let k = known (goal.at.add_member-requires c).In_ok-check_sign in let z = k.marked _ c.mark_round.ensures in search rules

pub shape_of-state : goal.shape_of-state
shape_of-state c = let k = known (goal.at.shape_of-state c).In_ok-check_sign in search rules

pub returns : goal.returns
returns c = search (known (goal.at.returns c).In_ok-check_sign).done
