-- The loop's invariant: the histories of the leaders before entry i are ordered.
use Rattle.commits.proofs.Committing.{Ordering}
use Rattle.commits.proofs.commit.order_leaders.Given as goal

abbrev pub invariant-loop-i : goal.invariant-loop-i
invariant-loop-i l = Ordering l.n l.initial.state l.first l.i l.state
