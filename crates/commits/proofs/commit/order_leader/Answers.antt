use Rattle.commits.proofs.Entering.{Roomy, Growth, growth}
use Rattle.record.specs.Members.{id_round}
use mathlib.Core.Path.{◌≡◌, refl}
use native.Mathlib.Omega.{arith}
use borrow.Author.Rules.{rules}
use Rattle.commits.proofs.commit.order_leader.Goals as goal
use Rattle.commits.proofs.commit.order_leader.Goals.{At-loop-r, Start}

known : (c : Start) → Growth c.args.n c.args.state.now c.args.id
known c = let p = c.requires in growth _ _ _ p.standing p.room p.members p.high p.there

roomy : (c : At-loop-r) → Roomy c.loop-r.state
roomy c = (known (goal.at.At-loop-r c).Start).kept _ _ c.loop-r.invariant

pub loop-r-preserved : goal.loop-r-preserved
loop-r-preserved c =
    (known (goal.at.loop-r-preserved c).Start).more _ _ _ _ _ (omega arith) c.loop-r.invariant refl c.history_of-masks.ensures
    c.order_round.ensures

pub returns : goal.returns
returns c =
    let e : c.loop-r.r ≡ id_round c.args.id = omega arith in
    (known (goal.at.returns c).Start).done _ (rw e at c.loop-r.invariant)

pub loop-r-init : goal.loop-r-init
loop-r-init c = (known (goal.at.loop-r-init c).Start).begun

pub order_round-requires : goal.order_round-requires
order_round-requires c = let k = roomy (goal.at.order_round-requires c).At-loop-r in search rules
