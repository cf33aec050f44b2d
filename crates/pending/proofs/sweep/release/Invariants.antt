-- Invariant: the records below slot j are tried, and those of them that wait on are in the first slots.
use Rattle.pending.specs.Buffer.{count_of}
use Rattle.pending.proofs.Swept.{Going}
use Rattle.pending.proofs.sweep.release.Given as goal

abbrev pub invariant-loop-j : goal.invariant-loop-j
invariant-loop-j l = Going l.group.n l.initial.state l.initial.buffer l.state l.buffer l.kept l.j (count_of l.initial.buffer)
