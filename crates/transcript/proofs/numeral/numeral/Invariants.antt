-- `numeral` meets its contract. The loop's invariant: the bytes so far are digits, of that value. Assumes nothing.
use Rattle.transcript.proofs.Numerals.{Counting}
use Rattle.transcript.proofs.numeral.numeral.Given as goal

abbrev pub invariant-loop-b : goal.invariant-loop-b
invariant-loop-b l = Counting l.s l.value l.b-index
