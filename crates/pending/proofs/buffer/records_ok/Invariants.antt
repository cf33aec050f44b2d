-- Invariant: the records from slot j on decide, with ids above the last one.
use mathlib.Core.Path.{◌≡◌}
use Prim.Native.Nat.{◌-◌}
use Rattle.pending.specs.Buffer.{count_of, records_from, records_in, records_ok}
use Rattle.pending.proofs.buffer.records_ok.Given as goal

abbrev pub invariant-loop-j : goal.invariant-loop-j
invariant-loop-j l =
    records_ok l.group.n l.last (records_from l.buffer l.j (count_of l.buffer - l.j)) ≡ records_ok l.group.n 0 (records_in l.buffer)
