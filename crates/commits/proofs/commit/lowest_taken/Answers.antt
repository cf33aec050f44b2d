-- `lowest_taken` meets its contract. Assumes nothing.
use native.Mathlib.Omega.{arith}
use Rattle.commits.proofs.Readying.{lowest_none, lowest_full, lowest_left}
use Rattle.commits.proofs.commit.lowest_taken.Goals as goal

pub returns-then-committed-eq0 : goal.returns-then-committed-eq0
returns-then-committed-eq0 c = lowest_none c.args.committed c.args.place c.args.width c.if-committed-eq0.true

pub returns-then-width-place : goal.returns-then-width-place
returns-then-width-place c =
    lowest_full c.args.committed c.args.place c.args.width c.if-committed-eq0.false c.if-width-place.true

pub returns : goal.returns
returns c =
    let h = c.if-width-place.false in
    lowest_left c.args.committed c.args.place c.args.width c.if-committed-eq0.false (omega arith)
