-- The loop's invariant: the leaders taken of the rounds below r are appended.
use Rattle.commits.proofs.Appending.{Appending}
use Rattle.commits.proofs.commit.append_runs.Given as goal

abbrev pub invariant-loop-r : goal.invariant-loop-r
invariant-loop-r l = Appending l.n l.low l.taken l.runs l.initial.state l.r l.state
