use Rattle.commits.proofs.Appending.{run_start, run_next, run_end}
use native.Mathlib.Omega.{arith}
use Rattle.commits.proofs.commit.append_run.Goals as goal

pub loop-i-preserved : goal.loop-i-preserved
loop-i-preserved c =
    run_next _ _ _ _ _ _ _ _ c.loop-i.invariant c.loop-i.auto.i c.loop-i-test.true c.append_leader.ensures

pub returns : goal.returns
returns c = run_end _ _ _ _ _ _ _ c.loop-i.invariant (omega arith)

pub loop-i-init : goal.loop-i-init
loop-i-init c = run_start _ _ _ _ _ c.requires.0
