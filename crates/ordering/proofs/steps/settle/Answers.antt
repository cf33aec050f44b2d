-- What was added is the growth of the lists: the commits shorten neither.
use Rattle.commits.proofs.Ground.{going}
use Rattle.ordering.proofs.Counts.{Settled, settled}
use Rattle.replica.proofs.Formed.{formed}
use borrow.Author.Rules.{rules}
use Rattle.ordering.proofs.steps.settle.Goals as goal
use Rattle.ordering.proofs.steps.settle.Goals.{After-commit_all}

pub commit_all-requires : goal.commit_all-requires
commit_all-requires c =
    (going _ (formed _ c.requires.0 c.requires.1), c.requires.2)

known : (c : After-commit_all) → Settled c.args.state.now c.commit_all.new.state
known c = settled _ _ (formed _ c.requires.0 c.requires.1) c.commit_all.ensures

pub returns : goal.returns
returns c = rw c.commit_all.ensures

pub overflow_sub-result : goal.overflow_sub-result
overflow_sub-result c = let k = known (goal.at.overflow_sub-result c).After-commit_all in search rules

pub overflow_sub-result-2 : goal.overflow_sub-result-2
overflow_sub-result-2 c = let k = known (goal.at.overflow_sub-result-2 c).After-commit_all in search rules
