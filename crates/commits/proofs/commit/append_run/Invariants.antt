-- The loop's invariant: the leaders below i are appended.
use Rattle.commits.proofs.Appending.{RunAppending}
use Rattle.commits.proofs.commit.append_run.Given as goal

abbrev pub invariant-loop-i : goal.invariant-loop-i
invariant-loop-i l = RunAppending l.n l.round l.a l.b l.initial.state l.i l.state
