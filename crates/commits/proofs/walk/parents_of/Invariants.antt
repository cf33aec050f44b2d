-- The loop's invariant: the strong masks of the members below p that the mask has are joined.
use Rattle.protocol.specs.Masks.{parents}
use Rattle.replica.specs.State.{vertices}
use mathlib.Core.Path.{◌≡◌}
use Rattle.commits.proofs.walk.parents_of.Given as goal

abbrev pub invariant-loop-p : goal.invariant-loop-p
invariant-loop-p l = l.joined ≡ parents (vertices l.state) l.round l.mask l.p
