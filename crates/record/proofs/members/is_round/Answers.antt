use Rattle.record.specs.Members.{is_round}
use borrow.Author.Tests.{le-leb, lt-leb}
use Rattle.record.proofs.members.is_round.Goals as goal

pub returns-then-round-lt1 : goal.returns-then-round-lt1
unfolding is_round
returns-then-round-lt1 c = simp (lt-leb _ _ c.if-round-lt1.true)

pub returns : goal.returns
unfolding is_round
returns c = simp (le-leb _ _ c.if-round-lt1.false)
