use native.Mathlib.Omega.{arith}
use borrow.Author.Rules.{rules}
use Rattle.ordering.proofs.Missing.{Search, searched}
use Rattle.ordering.proofs.search.first_missing.Goals as goal
use Rattle.ordering.proofs.search.first_missing.Goals.{Start}

known : (s : Start)
    → Search s.args.n s.args.round s.args.state.now s.args.body.now
known s = search searched

pub bounds-body-11 : goal.bounds-body-11
bounds-body-11 c = let k = known (goal.at.bounds-body-11 c).Start in search rules

pub slice_bounds-weak-items-end : goal.slice_bounds-weak-items-end
slice_bounds-weak-items-end c = let k = known (goal.at.slice_bounds-weak-items-end c).Start in search rules

pub loop-weak-preserved : goal.loop-weak-preserved
loop-weak-preserved c =
    (known (goal.at.loop-weak-preserved c).Start).weak_more _ (omega arith) c.loop-weak.invariant _ c.is_marked.ensures
    c.if-not-is_marked.false

pub returns-then-not-is_marked : goal.returns-then-not-is_marked
returns-then-not-is_marked c =
    (known (goal.at.returns-then-not-is_marked c).Start).weak_lacks _ (omega arith) c.loop-weak.invariant _ c.is_marked.ensures
    c.if-not-is_marked.true

pub first_missing_strong-requires-clause-weak_held : goal.first_missing_strong-requires-clause-weak_held
first_missing_strong-requires-clause-weak_held c =
    (known (goal.at.first_missing_strong-requires-clause-weak_held c).Start).weak_all _ (omega arith) c.loop-weak.invariant
