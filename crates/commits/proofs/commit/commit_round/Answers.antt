-- `commit_round` meets its contract. Assumes nothing.
use Rattle.commits.proofs.Committing.{Taken, taken_known}
use Rattle.commits.proofs.Readying.{lowest_known}
use Rattle.replica.specs.Layout.{committed_round_at}
use Rattle.replica.specs.State.{vertices}
use Rattle.replica.proofs.Width.{width_some, width_most}
use lib.ListN.{length-set}
use mathlib.Core.Path.{refl, ◌∙◌}
use native.Mathlib.Omega.{arith}
use borrow.Author.Rules.{rules}
use Rattle.commits.proofs.commit.commit_round.Goals as goal
use Rattle.commits.proofs.commit.commit_round.Goals.{After-taken_of}

known : (c : After-taken_of) → Taken c.args.state.now c.args.n c.lowest_taken-low.result c.taken_of.result c.args.q c.taken_runs-runs.result
known c =
    taken_known _ _ _ _ _ _ _ _ _ c.requires c.width_of-width.ensures c.lowest_taken-low.ensures c.taken_of.ensures c.taken_runs-runs.ensures

pub taken_runs-runs-requires : goal.taken_runs-runs-requires
taken_runs-runs-requires c =
    let N = c.requires in
    let A = N.at in
    let e = c.width_of-width.ensures in
    let L = lowest_known c.args.n c.width_of-width.result (vertices c.args.state.now) _ _ _ _ _ N.low c.lowest_taken-low.ensures refl in
    record {
      standing = A.going.standing;
      members = A.members;
      some = omega (arith, e, width_some c.args.state.now);
      most = omega (arith, e, width_most c.args.state.now);
      low = L.some;
      order = L.order;
      high = N.high;
      there = N.there;
    }

pub order_leaders-requires : goal.order_leaders-requires
order_leaders-requires c =
    (known (goal.at.order_leaders-requires c).After-taken_of).led _ c.append_runs.ensures

pub shape_of-state : goal.shape_of-state
shape_of-state c =
    c.order_leaders.auto.state ∙ length-set c.append_runs.new.state committed_round_at _ ∙ c.append_runs.auto.state

pub returns : goal.returns
returns c =
    (known (goal.at.returns c).After-taken_of).done _ _ c.append_runs.ensures c.order_leaders.ensures

pub bounds-state-3 : goal.bounds-state-3
bounds-state-3 c = let z = c.requires.at.going.standing.size in search rules

pub width_of-width-requires : goal.width_of-width-requires
width_of-width-requires c = let z = c.requires.at.going.standing.size in search rules

pub lowest_taken-low-requires : goal.lowest_taken-low-requires
lowest_taken-low-requires c = let N = c.requires in search rules

pub append_runs-requires : goal.append_runs-requires
append_runs-requires c = (known c).fits

pub bounds-state-2 : goal.bounds-state-2
bounds-state-2 c = let z = c.requires.at.going.standing.size in search rules
