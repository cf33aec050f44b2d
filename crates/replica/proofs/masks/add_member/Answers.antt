-- The word that is written is the mask with the member added.
use Rattle.replica.proofs.Words.{member_added}
use Rattle.replica.proofs.masks.add_member.Goals as goal

pub returns : goal.returns
returns c = member_added _ _ _ c.with-more.result c.with-more.ensures
