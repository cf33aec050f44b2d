use mathlib.Core.Path.{◌≡◌}
use native.Mathlib.Omega.{arith}
use Rattle.record.specs.Members.{slots}
use Rattle.proposing.proofs.Laws.{round_none, round_more, round_all}
use Rattle.proposing.proofs.weak.offer_round.Goals as goal

pub loop-p-preserved : goal.loop-p-preserved
loop-p-preserved c =
    round_more _ _ _ _ _ _ _ _ c.loop-p.invariant c.offer_id.ensures

pub returns : goal.returns
returns c =
    let e : c.loop-p.p ≡ slots = omega arith in
    rw e at c.loop-p.invariant

pub returns-then-held-reached : goal.returns-then-held-reached
returns-then-held-reached c = round_all _ _ _ _ _ slots (omega arith) c.if-held-reached.true

pub loop-p-init : goal.loop-p-init
loop-p-init c = round_none _ _ _ _ _
