-- The tests in turn; the lemmas are of `Clauses`.
use Rattle.record.proofs.Booleans.{passed}
use Rattle.replica.proofs.Clauses.{within_no, votes_no, first_no_lem, cells_no, ordered_decides}
use Rattle.replica.proofs.wellformed.body_ok.Goals as goal

pub returns : goal.returns
returns c = search (ordered_decides c.args.state.now)

pub returns-then-not-masks_within : goal.returns-then-not-masks_within
returns-then-not-masks_within c = search (within_no c.args.state.now)

pub returns-then-not-kind_within : goal.returns-then-not-kind_within
returns-then-not-kind_within c = search (votes_no c.args.state.now)

pub returns-then-mask_of-ne0 : goal.returns-then-mask_of-ne0
returns-then-mask_of-ne0 c = search (first_no_lem c.args.state.now)

pub cells_ok-requires : goal.cells_ok-requires
cells_ok-requires c = search passed

pub returns-then-not-cells_ok : goal.returns-then-not-cells_ok
returns-then-not-cells_ok c = search (cells_no c.args.state.now)
