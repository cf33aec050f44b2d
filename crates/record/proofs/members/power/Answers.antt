use Rattle.record.proofs.Masks.{shl_one}
use Rattle.record.proofs.members.power.Goals as goal

pub returns : goal.returns
returns c = shl_one c.args.p c.requires
