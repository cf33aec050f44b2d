-- `first_voters` meets its contract. Assumes nothing.
use mathlib.Core.Path.{sym, ap, ◌∙◌}
use mathlib.Core.Bool.{Bool, cond}
use Prim.Native.Nat.{◌+◌}
use borrow.Author.Tests.{eq-eqb, ne_eqb}
use Rattle.replica.specs.State.{votes_mask}
use Rattle.commits.proofs.commit.first_voters.Goals as goal

pub returns-then-i-eq0 : goal.returns-then-i-eq0
returns-then-i-eq0 c =
    c.mask_of.ensures ∙ sym (ap (λ (b : Bool). cond b (votes_mask c.args.state.now (c.args.q + 1)) 0) (eq-eqb _ _ c.if-i-eq0.true))

pub returns : goal.returns
returns c =
    sym (ap (λ (b : Bool). cond b (votes_mask c.args.state.now (c.args.q + 1)) 0) (ne_eqb _ _ c.if-i-eq0.false))
