-- The loop's invariant: what is left to fill is below round r.
use Rattle.protocol.specs.Masks.{fill, reach_masks}
use Rattle.replica.specs.State.{vertices}
use mathlib.Core.Path.{◌≡◌}
use Prim.Native.Nat.{◌-◌}
use Rattle.commits.proofs.history.reach_of.Given as goal

abbrev pub invariant-loop-r : goal.invariant-loop-r
invariant-loop-r l = reach_masks l.n (vertices l.state) l.round l.mask ≡ fill l.n (vertices l.state) l.masks (l.r - 1)
