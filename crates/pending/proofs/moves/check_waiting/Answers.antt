-- The record in slot j decides, if there is one.
use mathlib.Core.Bool.{not}
use mathlib.Core.Path.{◌≡◌, ap₂, ap, sym, ◌∙◌}
use native.Mathlib.Omega.{arith}
use lib.Dec.{eqb}
use borrow.Author.Rules.{rules}
use borrow.Author.Tests.{eq-eqb, ne_eqb}
use Rattle.record.proofs.Turn.{next, stop, done}
use Rattle.pending.specs.Buffer.{record_id, same_record, same_id, some, records_in}
use Rattle.pending.proofs.Slots.{slot_part}
use Rattle.pending.proofs.Order.{Formed, formed, slot_bounded}
use Rattle.pending.proofs.Calling.{tells_same, tells_id, none_there, one_there}
use Rattle.pending.proofs.moves.check_waiting.Goals as goal
use Rattle.pending.proofs.moves.check_waiting.Goals.{After-same_record, After-id_of-2, Start}

F : (s : Start) → Formed s.requires.sound.members (s.args.buffer.now)
F s = formed _ _ s.requires.sound.formed

pub returns-then-j-buffer : goal.returns-then-j-buffer
returns-then-j-buffer c =
    let s : Start = (goal.at.returns-then-j-buffer c).Start in
    let same = none_there _ c.args.buffer.now c.args.rec.now c.args.j (F s) c.requires.place (same_record c.args.rec.now) (tells_same c.args.rec.now)
    (omega arith) in
    let id = none_there _ c.args.buffer.now c.args.rec.now c.args.j (F s) c.requires.place (same_id c.args.rec.now) (tells_id c.args.rec.now) (omega arith) in
    next _ _ (ap not (sym same)) (next _ _ (ap not (sym id)) done)

same : (c : After-same_record) → c.same_record.result ≡ some (same_record c.args.rec.now) (records_in c.args.buffer.now)
same c =
    let s : Start = (goal.at.After-same_record c).Start in c.same_record.ensures
    ∙ ap (same_record c.args.rec.now) (slot_part c.args.buffer.now _ _ c.slot_at-at.ensures)
    ∙ one_there _ c.args.buffer.now c.args.rec.now c.args.j (F s) c.requires.place (same_record c.args.rec.now) (tells_same c.args.rec.now) (omega arith)

id : (c : After-id_of-2) → eqb c.id_of.result c.id_of-2.result ≡ some (same_id c.args.rec.now) (records_in c.args.buffer.now)
id c =
    let s : Start = (goal.at.After-id_of-2 c).Start in
    ap₂ eqb c.id_of.ensures (c.id_of-2.ensures ∙ ap record_id (slot_part c.args.buffer.now _ _ c.slot_at-at.ensures))
    ∙ one_there _ c.args.buffer.now c.args.rec.now c.args.j (F s) c.requires.place (same_id c.args.rec.now) (tells_id c.args.rec.now) (omega arith)

pub returns-then-same_record : goal.returns-then-same_record
returns-then-same_record c =
    stop _ _ (ap not (sym (same (goal.at.returns-then-same_record c).After-same_record) ∙ c.if-same_record.true))

pub returns-then-id_of : goal.returns-then-id_of
returns-then-id_of c =
    next _ _ (ap not (sym (same (goal.at.returns-then-id_of c).After-same_record) ∙ c.if-same_record.false))
    (stop _ _ (ap not (sym (id (goal.at.returns-then-id_of c).After-id_of-2) ∙ eq-eqb _ _ c.if-id_of.true)))

pub returns : goal.returns
returns c =
    next _ _ (ap not (sym (same (goal.at.returns c).After-same_record) ∙ c.if-same_record.false))
    (next _ _ (ap not (sym (id (goal.at.returns c).After-id_of-2) ∙ ne_eqb _ _ c.if-id_of.false)) done)

pub id_of-requires-2 : goal.id_of-requires-2
id_of-requires-2 c =
    rw (slot_part c.args.buffer.now _ _ c.slot_at-at.ensures) (slot_bounded c.args.buffer.now c.args.j c.requires.sound (omega arith))

pub bounds-buffer-0 : goal.bounds-buffer-0
bounds-buffer-0 c = let f = F (goal.at.bounds-buffer-0 c).Start in search rules

pub slot_at-at-requires : goal.slot_at-at-requires
slot_at-at-requires c = let f = F (goal.at.slot_at-at-requires c).Start in search rules

pub slice_bounds-same_record-end : goal.slice_bounds-same_record-end
slice_bounds-same_record-end c = let f = F (goal.at.slice_bounds-same_record-end c).Start in search rules
