-- A group of each size in turn; `RestCells` of `Cells`.
use native.Mathlib.Omega.{arith}
use Rattle.replica.proofs.Cells.{RestCells, rest_cells}
use Rattle.replica.proofs.wellformed.rest_cells_zero.Goals as goal
use Rattle.replica.proofs.wellformed.rest_cells_zero.Goals.{Start}

known : (c : Start) → RestCells c.args.state.now c.args.n c.args.start
known c = rest_cells _ _ _ c.requires.0 (omega arith)

pub returns-then-n-eq4 : goal.returns-then-n-eq4
returns-then-n-eq4 c = search ((known (goal.at.returns-then-n-eq4 c).Start).some 4)

pub returns-then-n-eq7 : goal.returns-then-n-eq7
returns-then-n-eq7 c = search ((known (goal.at.returns-then-n-eq7 c).Start).some 7)

pub returns-then-n-eq10 : goal.returns-then-n-eq10
returns-then-n-eq10 c = search ((known (goal.at.returns-then-n-eq10 c).Start).some 10)

pub returns-then-n-eq13 : goal.returns-then-n-eq13
returns-then-n-eq13 c = search ((known (goal.at.returns-then-n-eq13 c).Start).some 13)

pub returns : goal.returns
returns c = search (known (goal.at.returns c).Start).none
