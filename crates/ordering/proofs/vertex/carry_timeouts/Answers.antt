-- `carry_timeouts` meets its contract. Assumes nothing.
use Rattle.ordering.proofs.Carried.{carried_none, carried_before}
use Rattle.ordering.proofs.vertex.carry_timeouts.Goals as goal

pub returns-then-round-lt2 : goal.returns-then-round-lt2
returns-then-round-lt2 c = search carried_none

pub returns : goal.returns
returns c = search carried_before
