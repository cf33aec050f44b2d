-- `width_of` meets its contract. Assumes nothing.
use mathlib.Core.Path.{refl}
use Rattle.replica.specs.State.{width}
use Rattle.replica.proofs.places.width_of.Goals as goal

pub returns : goal.returns
unfolding width
returns c = refl
