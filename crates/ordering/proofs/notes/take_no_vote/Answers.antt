-- `take_no_vote` meets its contract. Assumes nothing.
use Rattle.ordering.specs.Calls.{take_no_vote}
use borrow.Author.Rules.{rules}
use Rattle.ordering.proofs.notes.take_no_vote.Goals as goal

pub returns : goal.returns
unfolding take_no_vote
returns c = search rules
