-- Invariant: all weak ids are held, and the strong parents below p.
use Rattle.ordering.proofs.Missing.{StrongHeld}
use Rattle.ordering.proofs.search.first_missing_strong.Given as goal

abbrev pub invariant-loop-p : goal.invariant-loop-p
invariant-loop-p l = StrongHeld l.round l.state l.body l.p
