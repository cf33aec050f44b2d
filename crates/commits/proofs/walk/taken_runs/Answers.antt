use Rattle.commits.proofs.Running.{Walk, walk_runs}
use Rattle.record.proofs.Masks.{leader_small}
use mathlib.Core.Path.{sym, ◌∙◌}
use Prim.Native.Nat.{◌-◌, ◌<◌}
use native.Mathlib.Omega.{arith}
use Rattle.commits.proofs.walk.taken_runs.Goals as goal
use Rattle.commits.proofs.walk.taken_runs.Goals.{After-leader_of-leader, Start}

known : (c : Start) → Walk c.args.state.now c.args.n c.args.m c.args.low c.args.q
known c = walk_runs _ _ _ _ _ c.requires

small : (c : After-leader_of-leader) → c.leader_of-leader.result < 32
small c =
    omega (arith, c.leader_of-leader.ensures, leader_small c.args.n (c.loop-t.t - 1) (omega (arith, c.requires.high)))

pub loop-t-init : goal.loop-t-init
loop-t-init c =
    (c.requires.order, (known (goal.at.loop-t-init c).Start).begun _ _ c.leader_of.ensures c.power-reached.ensures)

pub has_bit-requires : goal.has_bit-requires
has_bit-requires c = small c

pub power-reached-requires-then-has_bit : goal.power-reached-requires-then-has_bit
power-reached-requires-then-has_bit c = small (goal.at.power-reached-requires-then-has_bit c).After-leader_of-leader

pub loop-t-preserved-then-has_bit : goal.loop-t-preserved-then-has_bit
loop-t-preserved-then-has_bit c =
    let k = known (goal.at.loop-t-preserved-then-has_bit c).Start in (
      omega arith,
      k.took _ _ _ _ _ _ _ (omega arith) c.loop-t.invariant.1 c.parents_of-below.ensures c.leader_of-leader.ensures
          (sym c.has_bit.ensures ∙ c.if-has_bit.true) c.run_in.ensures c.power-reached-then-has_bit.ensures,
    )

pub loop-t-preserved : goal.loop-t-preserved
loop-t-preserved c =
    let k = known (goal.at.loop-t-preserved c).Start in (
      omega arith,
      k.passed _ _ _ _ _ (omega arith) c.loop-t.invariant.1 c.parents_of-below.ensures c.leader_of-leader.ensures
          (sym c.has_bit.ensures ∙ c.if-has_bit.false),
    )

pub returns : goal.returns
returns c = (known (goal.at.returns c).Start).done _ _ _ (omega (arith, c.requires.low)) c.loop-t.invariant.1
