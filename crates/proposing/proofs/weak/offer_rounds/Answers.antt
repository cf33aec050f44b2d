use mathlib.Core.Path.{◌≡◌}
use Prim.Native.Nat.{◌-◌}
use native.Mathlib.Omega.{arith}
use Rattle.proposing.proofs.Laws.{rounds_none, rounds_more}
use Rattle.proposing.proofs.weak.offer_rounds.Goals as goal

pub loop-t-preserved : goal.loop-t-preserved
loop-t-preserved c =
    rounds_more _ _ _ _ _ _ _ _ c.loop-t.invariant c.mask_of.ensures c.offer_round.ensures

pub returns : goal.returns
returns c =
    let e : c.loop-t.t ≡ c.args.round - 2 = omega arith in
    rw e at c.loop-t.invariant

pub loop-t-init : goal.loop-t-init
loop-t-init c = rounds_none _ _ _ _
