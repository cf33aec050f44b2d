use Rattle.replica.proofs.parents.strong_held.Goals as goal

pub returns : goal.returns
returns c = rw c.mask_of.ensures
