-- Invariant: the weak ids before this one are held.
use Rattle.ordering.proofs.Missing.{WeakHeld}
use Rattle.ordering.proofs.search.first_missing.Given as goal

abbrev pub invariant-loop-weak : goal.invariant-loop-weak
invariant-loop-weak l = WeakHeld l.state l.body l.weak-index
