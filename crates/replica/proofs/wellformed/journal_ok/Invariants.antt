-- Invariant: the first i entries are new ids, and the marks are theirs (`Reading` of `Marks`); `reading_decides` at the end.
use Rattle.replica.proofs.Marks.{Reading}
use Rattle.replica.proofs.wellformed.journal_ok.Given as goal

abbrev pub invariant-loop-x : goal.invariant-loop-x
invariant-loop-x l = Reading l.state l.x-index l.marks
