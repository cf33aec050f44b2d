use Rattle.commits.proofs.Laws.{WeakWord, Cell, cell_known, join_weak_none, join_weak_more}
use native.Mathlib.Omega.{arith}
use borrow.Author.Rules.{rules}
use Rattle.commits.proofs.history.join_weak.Goals as goal
use Rattle.commits.proofs.history.join_weak.Goals.{After-cell_at-at, In-loop-i}

known : (c : After-cell_at-at) → let a = c.args in
    Cell a.state.now a.round a.member c.cell_at-at.result
known c =
    cell_known _ c.requires.0 _ _ _ c.requires.1 c.requires.2 c.requires.3 c.cell_at-at.ensures

pub returns : goal.returns
returns c =
    let k = known (goal.at.returns c).After-cell_at-at in
    grind arith

weak : (c : In-loop-i) → WeakWord c.args.state.now c.args.round c.args.member c.cell_at-at.result c.loop-i.i
weak c = (known (goal.at.In-loop-i c).After-cell_at-at).weak _ (omega arith)

pub loop-i-preserved : goal.loop-i-preserved
loop-i-preserved c =
    join_weak_more _ _ _ _ _ _ c.loop-i.invariant (weak (goal.at.loop-i-preserved c).In-loop-i).is c.join_id.ensures

pub loop-i-init : goal.loop-i-init
loop-i-init c = join_weak_none _ _

pub bounds-state-at-in-loop-i : goal.bounds-state-at-in-loop-i
bounds-state-at-in-loop-i c = let w = weak (goal.at.bounds-state-at-in-loop-i c).In-loop-i in search rules

pub join_id-requires : goal.join_id-requires
join_id-requires c = let w = weak (goal.at.join_id-requires c).In-loop-i in search rules
