-- Invariant: the first p cells pass, and the place of the next one is at hand.
use mathlib.Core.Path.{◌≡◌}
use mathlib.Core.Bool.{true}
use Rattle.record.specs.Below.{all}
use Rattle.replica.specs.Layout.{cell_at}
use Rattle.replica.specs.WellFormed.{cell_ok}
use Rattle.replica.proofs.wellformed.members_ok.Given as goal

abbrev pub invariant-loop-p : goal.invariant-loop-p
invariant-loop-p l = (l.at ≡ cell_at l.round l.p) × (all l.p (cell_ok l.state l.round) ≡ true)
