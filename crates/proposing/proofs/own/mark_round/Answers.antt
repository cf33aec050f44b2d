use Rattle.proposing.specs.Own.{mark_round}
use Rattle.proposing.proofs.own.mark_round.Goals as goal

pub returns : goal.returns
unfolding mark_round
returns c =
    rw c.power.ensures
