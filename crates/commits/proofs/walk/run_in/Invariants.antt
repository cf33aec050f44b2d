-- The loop's invariant: the mask has the leaders below i.
use Rattle.commits.proofs.Running.{Running}
use Rattle.commits.proofs.walk.run_in.Given as goal

abbrev pub invariant-loop-i : goal.invariant-loop-i
invariant-loop-i l = Running l.n l.round l.mask l.i
