use mathlib.Core.Path.{◌≡◌, refl, sym, ◌∙◌}
use Prim.Native.Nat.{ℕ, ◌≤◌, ◌-◌}
use native.Mathlib.Omega.{arith}
use lib.ListN.{length, length-set}
use borrow.Rule.Slice.PartMut.{put_mid, same_len_mid}
use borrow.Author.Rules.{rules}
use Rattle.replica.proofs.Formed.{formed}
use Rattle.pending.specs.Layout.{count_place}
use Rattle.pending.specs.Buffer.{count_of}
use Rattle.pending.proofs.Order as order
use Rattle.pending.proofs.Order.{Formed}
use Rattle.pending.proofs.Passing.{Good}
use Rattle.pending.proofs.Writing.{cleared}
use Rattle.pending.proofs.Swept.{going_start, going_trying, step, sweep_done}
use Rattle.pending.proofs.sweep.release.Goals as goal
use Rattle.pending.proofs.sweep.release.Goals.{After-slot_at-end, Start}

F : (s : Start) → Formed s.args.group.n (s.args.buffer.now)
F s = order.formed _ _ s.requires.1

G : (s : Start) → Good s.args.group.n (s.args.state.now)
G s = record { formed = formed _ s.requires.0.size s.requires.0.formed; members = sym s.requires.0.members }

pub loop-j-init : goal.loop-j-init
loop-j-init c = let s : Start = (goal.at.loop-j-init c).Start in going_start _ _ _ (G s) (F s)

pub sweep_one-kept-requires : goal.sweep_one-kept-requires
sweep_one-kept-requires c =
    let s : Start = (goal.at.sweep_one-kept-requires c).Start in
    going_trying c.args.group.n c.args.state.now c.args.buffer.now c.loop-j.state c.loop-j.buffer c.loop-j.kept c.loop-j.j (F s)
    c.loop-j.invariant (omega arith)

pub loop-j-preserved : goal.loop-j-preserved
loop-j-preserved c =
    let s : Start = (goal.at.loop-j-preserved c).Start in
    step c.args.group.n c.args.state.now c.args.buffer.now c.loop-j.state c.loop-j.buffer c.loop-j.kept c.loop-j.j (F s) c.loop-j.invariant (omega arith) _ _ _
    c.sweep_one-kept.ensures

pub slot_at-free-requires : goal.slot_at-free-requires
slot_at-free-requires c =
    let s : Start = (goal.at.slot_at-free-requires c).Start in omega (arith, (F s).few, c.loop-j.invariant.few)

pub slot_at-end-requires : goal.slot_at-end-requires
slot_at-end-requires c = let s : Start = (goal.at.slot_at-end-requires c).Start in (F s).few

-- the slots to be cleared stand in the buffer, one behind the other
bounds : (c : After-slot_at-end) → (c.slot_at-free.result ≤ c.slot_at-end.result) × (c.slot_at-end.result ≤ length c.loop-j.buffer)
bounds c =
    let s : Start = (goal.at.After-slot_at-end c).Start in let f = (F s).few in
    let k = c.loop-j.invariant.few in
    let x = c.slot_at-free.ensures in
    let y = c.slot_at-end.ensures in
    let z = c.loop-j.invariant.size in
    (omega arith, omega arith)

pub shape_of-state : goal.shape_of-state
shape_of-state c =
    c.loop-j.invariant.good.formed.size ∙ sym c.requires.0.size

pub shape_of-buffer : goal.shape_of-buffer
shape_of-buffer c =
    let s : Start = (goal.at.shape_of-buffer c).Start in let at : ℕ = c.slot_at-free.result in
    let size : ℕ = c.slot_at-end.result - at in
    length-set (put_mid at size c.loop-j.buffer c.clear.new.words) count_place _
    ∙ same_len_mid at size c.loop-j.buffer c.clear.new.words c.clear.auto.words ∙ c.loop-j.invariant.size ∙ sym (F s).size

pub returns : goal.returns
returns c =
    let s : Start = (goal.at.returns c).Start in let b : After-slot_at-end = (goal.at.returns c).After-slot_at-end in
    let e : c.loop-j.j ≡ count_of c.args.buffer.now = omega arith in
    sweep_done c.args.group.n c.args.state.now c.args.buffer.now c.loop-j.state c.loop-j.buffer _ _ c.loop-j.kept _ _ (F s) (G s) (rw e at c.loop-j.invariant)
    c.slot_at-free.ensures c.slot_at-end.ensures (cleared c.loop-j.buffer c.clear.new.words _ _ (bounds b).0 (bounds b).1 c.clear.ensures) refl

pub bounds-buffer-0 : goal.bounds-buffer-0
bounds-buffer-0 c = let f = F (goal.at.bounds-buffer-0 c).Start in search rules

pub offset_bounds-buffer-free : goal.offset_bounds-buffer-free
offset_bounds-buffer-free c = let b = bounds c in search rules

pub slice_bounds-clear-count : goal.slice_bounds-clear-count
slice_bounds-clear-count c = let b = bounds c in search rules

pub slice_bounds-clear-start : goal.slice_bounds-clear-start
slice_bounds-clear-start c = let b = bounds c in search rules

pub slice_bounds-clear-end : goal.slice_bounds-clear-end
slice_bounds-clear-end c = let b = bounds c in search rules
