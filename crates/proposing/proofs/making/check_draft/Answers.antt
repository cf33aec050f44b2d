-- Questions 9, 10, 12 and 18 in turn: laws of `Asking`.
use Rattle.proposing.proofs.Asking.{draft_timeouts, draft_no_votes, draft_made, draft_first, draft_few, draft_done}
use Rattle.proposing.proofs.making.check_draft.Goals as goal

pub returns-then-not-is_enough : goal.returns-then-not-is_enough
returns-then-not-is_enough c = search draft_timeouts

pub returns-then-not-is_enough-2 : goal.returns-then-not-is_enough-2
returns-then-not-is_enough-2 c = search draft_no_votes

pub returns-then-marks_round : goal.returns-then-marks_round
returns-then-marks_round c = search draft_made

pub returns-then-round-eq1 : goal.returns-then-round-eq1
returns-then-round-eq1 c = search draft_first

pub returns-then-not-meets_quorum : goal.returns-then-not-meets_quorum
returns-then-not-meets_quorum c = search draft_few

pub returns : goal.returns
returns c = search draft_done
