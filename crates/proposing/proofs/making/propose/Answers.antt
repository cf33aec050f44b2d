-- The questions in turn, and the record: laws of `Asking`.
use mathlib.Core.Path.{◌≡◌}
use Rattle.proposing.specs.Inner.{Current}
use Rattle.proposing.specs.Making.{propose_refusal}
use Rattle.replica.specs.State.{member_count, current_round}
use Rattle.proposing.proofs.Kept.{MemberKnown}
use Rattle.proposing.proofs.Asking.{member_known, opened, propose_stopped, propose_past, propose_refused, propose_current, propose_done}
use borrow.Author.Rules.{rules}
use Rattle.record.proofs.Turn.{raised, was_err, was_ok}
use Rattle.proposing.proofs.making.propose.Goals as goal
use Rattle.proposing.proofs.making.propose.Goals.{In_ok-check_member, After-check_propose, In_ok-check_propose}

-- the state is a member's
known : (c : In_ok-check_member) → MemberKnown c.args.state.now
known c = member_known c.args.state.now _ c.check_member.ensures (was_ok c.in_ok-check_member.was)

-- so the questions of making decide
asked : (c : After-check_propose) → c.check_propose.result ≡ propose_refusal c.args.state.now
asked c = propose_past _ _ c.check_member.ensures (was_ok c.in_ok-check_member.was) c.check_propose.ensures

-- and where none stopped the call a record can be made for the current round
ready : (c : In_ok-check_propose) → Current c.args.state.now (member_count c.args.state.now) (current_round c.args.state.now)
ready c =
    propose_current c.args.state.now c.args.digest.now _ (asked (goal.at.In_ok-check_propose c).After-check_propose) (was_ok c.in_ok-check_propose.was)

pub returns-in_err-check_member : goal.returns-in_err-check_member
returns-in_err-check_member c =
    let stopped = propose_stopped _ _ c.check_member.ensures (was_err c.in_err-check_member.was) in
    propose_refused _ c.args.digest.now _ stopped _ c.in_err-check_member.was _ (raised _ c.from_residual.ensures.1)

pub bounds-state-0 : goal.bounds-state-0
bounds-state-0 c = let k = known (goal.at.bounds-state-0 c).In_ok-check_member in search rules

pub check_propose-requires : goal.check_propose-requires
check_propose-requires c = rw c.of-group.ensures (opened _ (known (goal.at.check_propose-requires c).In_ok-check_member))

pub returns-in_err-check_propose : goal.returns-in_err-check_propose
returns-in_err-check_propose c =
    propose_refused _ c.args.digest.now _ (asked (goal.at.returns-in_err-check_propose c).After-check_propose)
    _ c.in_err-check_propose.was _ (raised _ c.from_residual-in_err-check_propose.ensures.1)

pub bounds-state-1 : goal.bounds-state-1
bounds-state-1 c = let k = ready (goal.at.bounds-state-1 c).In_ok-check_propose in search rules

pub record_of-words-requires : goal.record_of-words-requires
record_of-words-requires c = rw c.of-group.ensures (ready (goal.at.record_of-words-requires c).In_ok-check_propose)

pub mark_round-requires : goal.mark_round-requires
mark_round-requires c = let k = ready (goal.at.mark_round-requires c).In_ok-check_propose in search rules

pub returns : goal.returns
returns c = let z = asked (goal.at.returns c).After-check_propose in let y = was_ok c.in_ok-check_propose.was in search propose_done
