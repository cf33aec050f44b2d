use mathlib.Core.Path.{◌≡◌, sym, ap, ◌∙◌}
use Prim.Native.Nat.{ℕ, ◌+◌, ◌-◌}
use native.Mathlib.Omega.{arith}
use Rattle.record.specs.Refusals.{number_of}
use Rattle.record.proofs.Turn.{ok_number, err_number}
use Rattle.record.specs.Questions.{record_refusal}
use Rattle.pending.specs.Buffer.{record_id, count_of, record_at, records_from, records_ok}
use Rattle.pending.proofs.Slots.{slot_part, records_all}
use Rattle.pending.proofs.Order.{bounded, ok_refused, ok_low, ok_next, ok_end}
use Rattle.pending.proofs.buffer.records_ok.Goals as goal
use Rattle.pending.proofs.buffer.records_ok.Goals.{After-id_of-id, After-is_err}

pub loop-j-init : goal.loop-j-init
loop-j-init c =
    ap (records_ok c.args.group.n 0) (records_all c.args.buffer.now (count_of c.args.buffer.now))

-- the questions are asked of the record in slot j
asked : (c : After-is_err) → c.check.result ≡ record_refusal c.args.group.n (record_at c.args.buffer.now c.loop-j.j)
asked c =
    c.check.ensures ∙ ap (record_refusal c.args.group.n) (slot_part c.args.buffer.now _ _ c.slot_at-at.ensures)

-- and its id is known
known : (c : After-id_of-id) → c.id_of-id.result ≡ record_id (record_at c.args.buffer.now c.loop-j.j)
known c =
    c.id_of-id.ensures ∙ ap record_id (slot_part c.args.buffer.now _ _ c.slot_at-at.ensures)

pub returns-then-is_err : goal.returns-then-is_err
returns-then-is_err c =
    let m : After-is_err = (goal.at.returns-then-is_err c).After-is_err in
    sym (ok_refused c.args.group.n c.loop-j.last c.args.buffer.now c.loop-j.j _ (omega arith) (λ d. err_number _ (sym c.is_err.ensures.value
    ∙ c.if-is_err.true) (ap number_of (asked m) ∙ d)))
    ∙ c.loop-j.invariant

pub id_of-id-requires : goal.id_of-id-requires
id_of-id-requires c =
    let m : After-is_err = (goal.at.id_of-id-requires c).After-is_err in
    rw (slot_part c.args.buffer.now _ _ c.slot_at-at.ensures) (bounded c.args.group.n _ c.requires.1 (ap number_of (sym (asked m))
    ∙ ok_number _ (sym c.is_err.ensures.value ∙ c.if-is_err.false)))

pub returns-then-id-last : goal.returns-then-id-last
returns-then-id-last c =
    let i : After-id_of-id = (goal.at.returns-then-id-last c).After-id_of-id in
    sym (ok_low c.args.group.n c.loop-j.last c.args.buffer.now c.loop-j.j _ (omega arith) (omega (arith, known i)))
    ∙ c.loop-j.invariant

pub loop-j-preserved : goal.loop-j-preserved
loop-j-preserved c =
    let m : After-is_err = (goal.at.loop-j-preserved c).After-is_err in let i : After-id_of-id = (goal.at.loop-j-preserved c).After-id_of-id in
    ap (λ (x : ℕ). records_ok c.args.group.n x (records_from c.args.buffer.now (c.loop-j.j + 1) (count_of c.args.buffer.now - (c.loop-j.j + 1)))) (known i)
    ∙ ok_next c.args.group.n c.loop-j.last c.args.buffer.now c.loop-j.j _ (omega arith) (ap number_of (sym (asked m))
    ∙ ok_number _ (sym c.is_err.ensures.value ∙ c.if-is_err.false)) (omega (arith, known i))
    ∙ c.loop-j.invariant

pub returns : goal.returns
returns c =
    sym (ok_end c.args.group.n c.loop-j.last c.args.buffer.now c.loop-j.j _ (omega arith)) ∙ c.loop-j.invariant
