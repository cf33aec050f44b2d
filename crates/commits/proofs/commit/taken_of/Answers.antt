-- `taken_of` meets its contract. Assumes nothing.
use mathlib.Core.Path.{sym, ap}
use mathlib.Core.Bool.{Bool, cond}
use borrow.Author.Tests.{eq-eqb, ne_eqb}
use Rattle.commits.proofs.commit.taken_of.Goals as goal

pub returns-then-round-committed : goal.returns-then-round-committed
returns-then-round-committed c = sym (ap (λ (b : Bool). cond b c.args.place 0) (eq-eqb _ _ c.if-round-committed.true))

pub returns : goal.returns
returns c = sym (ap (λ (b : Bool). cond b c.args.place 0) (ne_eqb _ _ c.if-round-committed.false))
