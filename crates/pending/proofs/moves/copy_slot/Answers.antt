use mathlib.Core.Path.{◌≡◌}
use native.Mathlib.Omega.{arith}
use lib.Seq.{paste-zero}
use Rattle.record.specs.Layout.{record_size}
use Rattle.pending.specs.Layout.{slot_at}
use Rattle.pending.specs.Buffer.{record_at}
use Rattle.pending.proofs.Slots.{slot_size}
use Rattle.pending.proofs.Writing.{written_more, unwritten}
use Rattle.pending.proofs.moves.copy_slot.Goals as goal

pub loop-i-init : goal.loop-i-init
loop-i-init c =
    paste-zero c.args.buffer.now (slot_at c.args.to) (record_at c.args.buffer.now c.args.from)

pub loop-i-preserved : goal.loop-i-preserved
loop-i-preserved c =
    written_more c.args.buffer.now c.loop-i.buffer _ (slot_at c.args.to) _ (record_at c.args.buffer.now c.args.from) c.loop-i.i
    c.slot_at-place.ensures c.loop-i.invariant
    (unwritten c.args.buffer.now c.loop-i.buffer c.args.from c.args.to _ c.loop-i.i c.slot_at-at.ensures c.loop-i.invariant
    c.requires.0 c.requires.1 c.requires.2 (omega arith))
    (omega (arith, c.requires.0, c.requires.2)) (omega (arith, slot_size c.args.buffer.now c.args.from c.requires.0 c.requires.1))

pub returns : goal.returns
returns c =
    let e : c.loop-i.i ≡ record_size = omega arith in rw e at c.loop-i.invariant
