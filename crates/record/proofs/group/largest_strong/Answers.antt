use borrow.Author.Tests.{eq-eqb, ne_eqb}
use Rattle.record.proofs.group.largest_strong.Goals as goal

pub returns-then-round-eq1 : goal.returns-then-round-eq1
returns-then-round-eq1 c = rw (eq-eqb _ _ c.if-round-eq1.true)

pub returns : goal.returns
returns c = rw (c.largest_mask.ensures, ne_eqb _ _ c.if-round-eq1.false)
