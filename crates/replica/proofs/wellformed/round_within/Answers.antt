-- `join_within` of `Laws`: joined masks are within the group exactly if each is.
use mathlib.Core.Path.{◌∙◌}
use Rattle.replica.specs.WellFormed.{masks_within}
use Rattle.replica.proofs.Laws.{join_within}
use Rattle.replica.proofs.wellformed.round_within.Goals as goal

pub returns : goal.returns
unfolding masks_within
returns c =
    c.is_within.ensures ∙ rw c.masks_at-at.ensures (join_within _ _ _ _ _ _ _)
