-- The cells of a round that holds nothing, or those of the members and then the others, decide: the lemmas are of `Cells`.
use Rattle.replica.proofs.Cells.{round_blank, members_no, others_decide}
use Rattle.replica.proofs.wellformed.round_cells_ok.Goals as goal

pub returns-then-mask_of-eq0 : goal.returns-then-mask_of-eq0
returns-then-mask_of-eq0 c = search round_blank

pub returns-then-not-members_ok : goal.returns-then-not-members_ok
returns-then-not-members_ok c = search members_no

pub returns : goal.returns
returns c = search others_decide
