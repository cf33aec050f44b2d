-- The word at the place that `masks_at` ensures.
use Rattle.replica.proofs.masks.mask_of.Goals as goal

pub returns : goal.returns
returns c =
    rw c.masks_at-at.ensures
