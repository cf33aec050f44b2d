use Rattle.commits.proofs.Appending.{Appending, appending_start, appending_room, appending_next, appending_end}
use Prim.Native.Nat.{◌+◌}
use native.Mathlib.Omega.{arith}
use Rattle.commits.proofs.commit.append_runs.Goals as goal
use Rattle.commits.proofs.commit.append_runs.Goals.{After-append_run}

next : (c : After-append_run) → let a = c.args in
    Appending a.n a.low a.taken a.runs a.state.now (c.loop-r.r + 1) c.append_run.new.state
next c =
    appending_next _ _ _ _ _ _ c.requires _ _ _ _ c.loop-r.invariant c.taken_of.ensures c.append_run.ensures

pub loop-r-init : goal.loop-r-init
loop-r-init c = appending_start _ _ _ _ _ _ c.requires

pub append_run-requires : goal.append_run-requires
append_run-requires c =
    let G = c.requires in
    let k = appending_room _ _ _ _ _ _ G _ _ _ c.loop-r.invariant (omega (arith, G.high)) c.taken_of.ensures in
    (k.0, G.some, omega (arith, G.low), omega (arith, G.high), k.1)

pub loop-r-preserved : goal.loop-r-preserved
loop-r-preserved c = next (goal.at.loop-r-preserved c).After-append_run

pub returns-2 : goal.returns-2
returns-2 c = appending_end _ _ _ _ _ _ c.requires _ _ (omega arith) (next (goal.at.returns-2 c).After-append_run)
