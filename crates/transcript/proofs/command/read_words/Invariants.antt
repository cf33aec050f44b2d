-- `read_words` meets its contract. The loop's invariant: the line's words are those in the array and those from index `at` on. Assumes nothing.
use Rattle.transcript.proofs.Words.{Reading}
use Rattle.transcript.proofs.command.read_words.Given as goal

abbrev pub invariant-loop-i : goal.invariant-loop-i
invariant-loop-i l = Reading l.line l.count l.words l.at l.i
