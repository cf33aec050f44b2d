-- Invariant: the first i words of the record are written.
use mathlib.Core.Path.{◌≡◌}
use lib.Seq.{paste}
use Rattle.pending.specs.Layout.{slot_at}
use Rattle.pending.specs.Buffer.{record_at}
use Rattle.pending.proofs.moves.copy_slot.Given as goal

abbrev pub invariant-loop-i : goal.invariant-loop-i
invariant-loop-i l = l.buffer ≡ paste l.initial.buffer (slot_at l.to) (record_at l.initial.buffer l.from) l.i
