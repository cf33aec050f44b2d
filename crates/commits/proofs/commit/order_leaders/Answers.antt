use Rattle.commits.proofs.Committing.{ordering_ready, ordering_next, ordering_end}
use native.Mathlib.Omega.{arith}
use Rattle.commits.proofs.commit.order_leaders.Goals as goal

pub order_leader-requires : goal.order_leader-requires
order_leader-requires c =
    ordering_ready _ _ _ c.requires _ _ c.loop-i.invariant c.loop-i.auto.i c.loop-i-test.true

pub loop-i-preserved : goal.loop-i-preserved
loop-i-preserved c =
    ordering_next _ _ _ c.requires _ _ _ c.loop-i.invariant c.loop-i.auto.i c.loop-i-test.true c.order_leader.ensures

pub returns : goal.returns
returns c = ordering_end _ _ _ c.requires _ _ c.loop-i.invariant (omega arith)
