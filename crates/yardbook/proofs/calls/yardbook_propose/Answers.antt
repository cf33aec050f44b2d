use Rattle.yardbook.proofs.Laws.{answered_proposal}
use Rattle.yardbook.proofs.calls.yardbook_propose.Goals as goal

pub returns : goal.returns
returns c =
    answered_proposal c.propose.result _ _ _ c.from.ensures c.propose.ensures
