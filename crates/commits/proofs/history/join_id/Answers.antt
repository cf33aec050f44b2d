use Rattle.protocol.specs.Masks.{join}
use Rattle.commits.proofs.history.join_id.Goals as goal

pub returns : goal.returns
unfolding join
returns c =
    rw c.with-more.ensures
