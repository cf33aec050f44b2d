-- Invariant: the records from slot i on have moved up.
use Prim.Native.Nat.{◌≤◌}
use Rattle.pending.proofs.Upward.{Moved}
use Rattle.pending.proofs.moves.put_in.Given as goal

abbrev pub invariant-loop-i : goal.invariant-loop-i
invariant-loop-i l = (l.j ≤ l.i) × Moved l.initial.buffer l.buffer l.i l.count
