use Rattle.record.proofs.Masks.{has_test}
use Rattle.record.proofs.members.has_bit.Goals as goal

pub returns : goal.returns
returns c = has_test _ _
