-- The loop's invariant: the parents of the mask's members below p are joined.
use Rattle.protocol.specs.Masks.{join_round}
use Rattle.replica.specs.State.{vertices}
use mathlib.Core.Path.{◌≡◌}
use Rattle.commits.proofs.history.join_round.Given as goal

abbrev pub invariant-loop-p : goal.invariant-loop-p
invariant-loop-p l = l.masks ≡ join_round (vertices l.state) l.initial.masks l.round l.mask l.p
