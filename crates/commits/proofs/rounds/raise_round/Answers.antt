use Rattle.commits.proofs.Laws.{raised, not_raised}
use Rattle.commits.proofs.rounds.raise_round.Goals as goal

pub returns-then-state-next : goal.returns-then-state-next
returns-then-state-next c =
    raised _ _ c.highest_passable-next.ensures.0 c.if-state-next.true

pub returns-else-state-next : goal.returns-else-state-next
returns-else-state-next c =
    not_raised _ _ c.highest_passable-next.ensures.0 c.if-state-next.false
