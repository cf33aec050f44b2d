-- The loop's invariant: from round t up the walk stands as `Walked` says.
use Rattle.commits.proofs.Running.{Walked}
use Rattle.replica.specs.State.{vertices}
use Prim.Native.Nat.{◌-◌, ◌≤◌}
use Rattle.commits.proofs.walk.taken_runs.Given as goal

abbrev pub invariant-loop-t : goal.invariant-loop-t
invariant-loop-t l = (l.low ≤ l.t) × Walked l.n l.m (vertices l.state) l.low l.q (l.t - 1) l.runs l.reached
