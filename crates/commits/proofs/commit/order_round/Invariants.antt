-- The loop's invariant: the ids of the members below p are ordered.
use Rattle.commits.specs.Standing.{order_round}
use mathlib.Core.Path.{◌≡◌}
use Rattle.commits.proofs.commit.order_round.Given as goal

abbrev pub invariant-loop-p : goal.invariant-loop-p
invariant-loop-p l = l.state ≡ order_round l.initial.state l.mask l.round l.p
