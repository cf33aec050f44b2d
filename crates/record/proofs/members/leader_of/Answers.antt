use Rattle.record.proofs.Masks.{leader_main}
use Rattle.record.proofs.members.leader_of.Goals as goal

pub returns : goal.returns
returns c = leader_main _ _
