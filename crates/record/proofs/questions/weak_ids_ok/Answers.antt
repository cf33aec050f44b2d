use Prim.Native.Nat.{◌<◌}
use native.Mathlib.Omega.{arith}
use Rattle.record.specs.Layout.{weak_place, weak_of}
use Rattle.record.proofs.Weak.{risen_start, risen_stop, risen_more}
use Rattle.record.proofs.Spans.{span_words}
use Rattle.record.proofs.questions.weak_ids_ok.Goals as goal

pub loop-x-init : goal.loop-x-init
loop-x-init c = risen_start _ _ _

pub returns-then-not-weak_id_ok : goal.returns-then-not-weak_id_ok
unfolding weak_of
returns-then-not-weak_id_ok c =
    let part = span_words c.args.body.now weak_place c.args.count c.loop-x.x-index (omega arith) in
    let low : c.loop-x.x-index < c.args.count = omega arith in
    risen_stop c.loop-x.invariant _ (part.1 low) _ c.weak_id_ok.ensures _ low (search)

pub loop-x-preserved : goal.loop-x-preserved
unfolding weak_of
loop-x-preserved c =
    let part = span_words c.args.body.now weak_place c.args.count c.loop-x.x-index (omega arith) in
    let low : c.loop-x.x-index < c.args.count = omega arith in
    risen_more c.loop-x.invariant _ (part.1 low) _ c.weak_id_ok.ensures (search)
