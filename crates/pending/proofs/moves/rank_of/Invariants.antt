-- Invariant: j records have lower ids, and those from slot j on say how many more.
use mathlib.Core.Path.{◌≡◌}
use Prim.Native.Nat.{◌+◌, ◌-◌}
use Rattle.pending.specs.Buffer.{count_of, records_from, records_in}
use Rattle.pending.specs.Inner.{rank}
use Rattle.pending.proofs.moves.rank_of.Given as goal

abbrev pub invariant-loop-j : goal.invariant-loop-j
invariant-loop-j l = l.j + rank (records_from l.buffer l.j (count_of l.buffer - l.j)) l.id ≡ rank (records_in l.buffer) l.id
