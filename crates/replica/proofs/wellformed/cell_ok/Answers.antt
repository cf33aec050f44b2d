-- A cell that nobody holds is blank; the record of a held one decides: the lemmas are of `Cells`.
use Rattle.replica.proofs.Cells.{cell_blank, cell_known, cell_decides}
use Rattle.replica.proofs.wellformed.cell_ok.Goals as goal

pub returns-then-not-has_bit : goal.returns-then-not-has_bit
returns-then-not-has_bit c = search cell_blank

pub record_ok-requires : goal.record_ok-requires
record_ok-requires c = search cell_known

pub returns : goal.returns
returns c = search cell_decides
