-- The largest strong mask is 0 in round 1, and that of n members later.
use Rattle.record.proofs.Parts.{strong_above, strong_first, strong_later}
use mathlib.Core.Path.{◌∙◌}
use native.Mathlib.Omega.{arith}
use Rattle.record.proofs.questions.strong_ok.Goals as goal

pub returns-then-terms-strong : goal.returns-then-terms-strong
returns-then-terms-strong c =
    strong_above _ _ _ _ _ c.args.terms.now.largest_is (omega arith) c.if-terms-strong.true

pub returns-then-terms-eq1 : goal.returns-then-terms-eq1
returns-then-terms-eq1 c =
    strong_first _ _ _ _ _ c.args.terms.now.largest_is c.if-terms-eq1.true c.if-terms-strong.false

pub returns : goal.returns
returns c =
    c.meets_quorum.ensures ∙ strong_later _ _ _ _ _ c.args.terms.now.largest_is (omega arith) c.if-terms-eq1.false c.if-terms-strong.false
