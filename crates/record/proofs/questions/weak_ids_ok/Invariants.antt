-- Invariant: the weak ids so far pass, and the last one is that of the slot before, 15 at first (`Risen` of `Weak`).
use Rattle.record.proofs.Weak.{Risen}
use Rattle.record.proofs.questions.weak_ids_ok.Given as goal

abbrev pub invariant-loop-x : goal.invariant-loop-x
invariant-loop-x l = Risen l.n l.round l.body l.last l.x-index
