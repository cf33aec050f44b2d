-- `commit_next` meets its contract. Assumes nothing.
use Rattle.commits.proofs.Committing.{Grown, grown_known}
use mathlib.Core.Path.{◌∙◌}
use native.Mathlib.Omega.{arith}
use borrow.Author.Rules.{rules}
use Rattle.commits.proofs.commit.commit_next.Goals as goal
use Rattle.commits.proofs.commit.commit_next.Goals.{Start}

known : (c : Start) → Grown c.args.state.now c.args.n c.args.q c.args.i
known c = grown_known _ _ _ _ c.requires

pub append_leader-requires : goal.append_leader-requires
append_leader-requires c =
    let s : Start = (goal.at.append_leader-requires c).Start in let k = known s in
    (k.room, omega (arith, c.requires.at.going.standing.low, c.requires.at.members), k.low, k.high, k.few)

pub order_leaders-requires : goal.order_leaders-requires
order_leaders-requires c =
    (known (goal.at.order_leaders-requires c).Start).led _ c.append_leader.ensures

pub shape_of-state : goal.shape_of-state
shape_of-state c =
    c.order_leaders.auto.state ∙ c.append_leader.auto.state

pub returns : goal.returns
returns c =
    (known (goal.at.returns c).Start).done _ _ c.append_leader.ensures c.order_leaders.ensures

pub bounds-state-3 : goal.bounds-state-3
bounds-state-3 c = let z = c.requires.at.going.standing.size in search rules
