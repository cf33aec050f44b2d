-- The loop's invariant: the history's ids of the rounds up to r are ordered.
use Rattle.commits.proofs.Entering.{so_far_in}
use Rattle.record.specs.Members.{slots}
use mathlib.Core.Path.{◌≡◌}
use Prim.Native.Nat.{◌+◌, ◌*◌}
use Rattle.commits.proofs.commit.order_leader.Given as goal

abbrev pub invariant-loop-r : goal.invariant-loop-r
invariant-loop-r l = l.state ≡ so_far_in l.n l.initial.state l.id (slots * (l.r + 1))
