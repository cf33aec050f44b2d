-- The word that is written is the mask with the members added.
use mathlib.Core.Path.{refl}
use Rattle.replica.specs.State.{add_members}
use Rattle.replica.proofs.masks.add_members.Goals as goal

pub returns : goal.returns
unfolding add_members
returns c = refl
