-- `within_three`: joined masks are within the group exactly if each is.
use mathlib.Core.Path.{◌∙◌}
use Rattle.record.proofs.Masks.{within_three}
use Rattle.record.proofs.questions.masks_ok.Goals as goal

pub returns : goal.returns
returns c = c.is_within.ensures ∙ within_three _ _ _ _
