use Rattle.record.specs.Members.{leader_at}
use borrow.Author.Rules.{rules}
use Rattle.record.proofs.members.leader_at.Goals as goal

pub returns : goal.returns
unfolding leader_at
returns c = search rules
