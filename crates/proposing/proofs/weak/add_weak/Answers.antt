use Rattle.proposing.specs.Inner.{add_weak}
use mathlib.Core.Path.{refl}
use Rattle.proposing.proofs.weak.add_weak.Goals as goal

pub returns : goal.returns
unfolding add_weak
returns c = refl
