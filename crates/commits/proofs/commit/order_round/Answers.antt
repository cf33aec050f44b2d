use Rattle.commits.proofs.Steps.{round_none, round_more, round_old}
use Rattle.commits.proofs.Entering.{Roomy, round_kept}
use native.Mathlib.Omega.{arith}
use borrow.Author.Rules.{rules}
use borrow.Author.Tests.{eq-eqb}
use Rattle.record.specs.Members.{slots}
use Rattle.commits.proofs.commit.order_round.Goals as goal
use Rattle.commits.proofs.commit.order_round.Goals.{At-loop-p}

known : (c : At-loop-p) → Roomy c.loop-p.state
known c =
    round_kept _ _ _ _ _ c.requires.1 c.requires.2 (omega arith) c.requires.0 c.requires.3 c.loop-p.invariant

pub returns-then-mask-mask_of : goal.returns-then-mask-mask_of
returns-then-mask-mask_of c =
    round_old _ _ _ slots c.requires.1 c.requires.2 (omega arith) (eq-eqb _ _ (rw c.mask_of.ensures at c.if-mask-mask_of.true))

pub loop-p-preserved : goal.loop-p-preserved
loop-p-preserved c = round_more _ _ _ _ _ _ c.loop-p.invariant c.order_id.ensures

pub loop-p-init : goal.loop-p-init
loop-p-init c = round_none _ _ _

pub order_id-requires : goal.order_id-requires
order_id-requires c = let k = known (goal.at.order_id-requires c).At-loop-p in search rules
