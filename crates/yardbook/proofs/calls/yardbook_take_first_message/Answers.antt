use Rattle.yardbook.proofs.Laws.{answered}
use Rattle.yardbook.proofs.calls.yardbook_take_first_message.Goals as goal

pub returns : goal.returns
returns c =
    answered c.take_first_message.result _ _ _ c.from.ensures c.take_first_message.ensures
