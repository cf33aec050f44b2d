use Rattle.yardbook.proofs.Laws.{answered}
use Rattle.yardbook.proofs.calls.yardbook_take_timeouts.Goals as goal

pub returns : goal.returns
returns c =
    answered c.take_timeouts.result _ _ _ c.from.ensures c.take_timeouts.ensures
