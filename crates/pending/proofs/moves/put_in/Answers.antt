use mathlib.Core.Path.{◌≡◌, sym, ◌∙◌}
use Prim.Native.Nat.{◌+◌, ◌≤◌, ◌-◌}
use native.Mathlib.Omega.{arith}
use lib.ListN.{length-set}
use borrow.Author.Rules.{rules}
use Rattle.pending.specs.Layout.{count_place}
use Rattle.pending.specs.Buffer.{record_id, count_of, records_in}
use Rattle.pending.proofs.Slots.{records_length}
use Rattle.pending.proofs.Order.{Formed, formed, rank_le}
use Rattle.pending.proofs.Upward.{moved_none, moved_more, put_done}
use Rattle.pending.proofs.moves.put_in.Goals as goal
use Rattle.pending.proofs.moves.put_in.Goals.{Start}

F : (s : Start) → Formed s.requires.0.sound.members (s.args.buffer.now)
F s = formed _ _ s.requires.0.sound.formed

-- the slot is not above the count
fits : (s : Start) → s.args.j ≤ count_of (s.args.buffer.now)
fits s =
    omega (
      arith,
      s.requires.0.place,
      rank_le (records_in (s.args.buffer.now)) (record_id s.args.rec.now),
      records_length (s.args.buffer.now) 0
          (count_of (s.args.buffer.now)),
    )

pub loop-i-init : goal.loop-i-init
loop-i-init c = let s : Start = (goal.at.loop-i-init c).Start in (fits s, moved_none _ c.args.buffer.now (F s))

pub copy_slot-requires : goal.copy_slot-requires
copy_slot-requires c =
    let f = c.requires.1 in
    let m = c.loop-i.invariant.1.size in
    (m, omega arith, omega arith)

pub loop-i-preserved : goal.loop-i-preserved
loop-i-preserved c =
    let n : c.loop-i.i - 1 + 1 ≡ c.loop-i.i = omega arith in (
      omega arith,
      moved_more c.args.buffer.now c.loop-i.buffer _ (c.loop-i.i - 1) (count_of c.args.buffer.now) (rw n c.loop-i.invariant.1) (omega arith) c.requires.1
          c.copy_slot.ensures,
    )

pub write_slot-requires : goal.write_slot-requires
write_slot-requires c =
    let s : Start = (goal.at.write_slot-requires c).Start in (c.loop-i.invariant.1.size, omega (arith, fits s, c.requires.1), c.requires.0.bounded.size)

pub shape_of-buffer : goal.shape_of-buffer
shape_of-buffer c =
    let s : Start = (goal.at.shape_of-buffer c).Start in length-set c.write_slot.new.buffer count_place _ ∙ c.write_slot.auto.buffer
    ∙ c.loop-i.invariant.1.size ∙ sym (F s).size

pub returns : goal.returns
returns c =
    let s : Start = (goal.at.returns c).Start in let e : c.loop-i.i ≡ c.args.j = omega arith in
    put_done _ c.args.buffer.now c.loop-i.buffer _ c.args.rec.now c.args.j (F s) (rw e at c.loop-i.invariant.1) c.requires.1 (fits s) c.requires.0.bounded.size
    (rw c.write_slot.ensures) c.requires.0.place

pub bounds-buffer-0 : goal.bounds-buffer-0
bounds-buffer-0 c = let f = F (goal.at.bounds-buffer-0 c).Start in search rules

pub overflow_add-buffer : goal.overflow_add-buffer
overflow_add-buffer c = let f = c.requires.1 in search rules
