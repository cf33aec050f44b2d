-- The masks and then the weak ids decide: `masks_no` and `weak_decides` of `Parts`.
use Rattle.record.proofs.Parts.{masks_no, weak_decides}
use Rattle.record.proofs.questions.is_admitted.Goals as goal

pub returns-then-not-masks_admitted : goal.returns-then-not-masks_admitted
returns-then-not-masks_admitted c = search masks_no

pub returns : goal.returns
returns c = search weak_decides
