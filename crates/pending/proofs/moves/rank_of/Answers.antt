use mathlib.Core.Path.{◌≡◌, ap, ◌∙◌}
use native.Mathlib.Omega.{arith}
use borrow.Author.Rules.{rules}
use Rattle.pending.specs.Buffer.{record_id, count_of, record_at}
use Rattle.pending.specs.Inner.{rank}
use Rattle.pending.proofs.Slots.{slot_part, records_all}
use Rattle.pending.proofs.Order.{Formed, formed, slot_bounded, rank_none, rank_here, rank_next}
use Rattle.pending.proofs.moves.rank_of.Goals as goal
use Rattle.pending.proofs.moves.rank_of.Goals.{After-id_of, Start}

F : (s : Start) → Formed s.requires.members (s.args.buffer.now)
F s = formed _ _ s.requires.formed

pub loop-j-init : goal.loop-j-init
loop-j-init c =
    let e = ap (λ recs. rank recs c.args.id) (records_all c.args.buffer.now (count_of c.args.buffer.now)) in
    omega (arith, e)

pub id_of-requires : goal.id_of-requires
id_of-requires c =
    rw (slot_part c.args.buffer.now _ _ c.slot_at-at.ensures) (slot_bounded c.args.buffer.now c.loop-j.j c.requires (omega arith))

-- the id of the record in slot j
known : (c : After-id_of)
    → c.id_of.result ≡ record_id (record_at c.args.buffer.now c.loop-j.j)
known c =
    c.id_of.ensures ∙ ap record_id (slot_part c.args.buffer.now _ _ c.slot_at-at.ensures)

pub returns-then-id_of-id : goal.returns-then-id_of-id
returns-then-id_of-id c =
    let i : After-id_of = (goal.at.returns-then-id_of-id c).After-id_of in
    let r = rank_here c.args.buffer.now c.loop-j.j (count_of c.args.buffer.now) c.args.id (omega arith) (omega (arith, known i)) in
    omega (arith, r, c.loop-j.invariant)

pub loop-j-preserved : goal.loop-j-preserved
loop-j-preserved c =
    let i : After-id_of = (goal.at.loop-j-preserved c).After-id_of in
    let r = rank_next c.args.buffer.now c.loop-j.j (count_of c.args.buffer.now) c.args.id (omega arith) (omega (arith, known i)) in
    omega (arith, r, c.loop-j.invariant)

pub returns : goal.returns
returns c =
    let r = rank_none c.args.buffer.now c.loop-j.j (count_of c.args.buffer.now) c.args.id (omega arith) in
    omega (arith, r, c.loop-j.invariant)

pub bounds-buffer-0 : goal.bounds-buffer-0
bounds-buffer-0 c = let f = F (goal.at.bounds-buffer-0 c).Start in search rules

pub slot_at-at-requires : goal.slot_at-at-requires
slot_at-at-requires c = let f = F (goal.at.slot_at-at-requires c).Start in search rules

pub overflow_add-end : goal.overflow_add-end
overflow_add-end c = let f = F (goal.at.overflow_add-end c).Start in search rules

pub offset_bounds-buffer-at : goal.offset_bounds-buffer-at
offset_bounds-buffer-at c = let f = F (goal.at.offset_bounds-buffer-at c).Start in search rules

pub slice_bounds-id_of-count : goal.slice_bounds-id_of-count
slice_bounds-id_of-count c = let f = F (goal.at.slice_bounds-id_of-count c).Start in search rules

pub slice_bounds-id_of-start : goal.slice_bounds-id_of-start
slice_bounds-id_of-start c = let f = F (goal.at.slice_bounds-id_of-start c).Start in search rules

pub slice_bounds-id_of-end : goal.slice_bounds-id_of-end
slice_bounds-id_of-end c = let f = F (goal.at.slice_bounds-id_of-end c).Start in search rules
