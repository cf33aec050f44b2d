use Rattle.yardbook.proofs.Laws.{answered}
use Rattle.yardbook.proofs.calls.yardbook_take_no_vote.Goals as goal

pub returns : goal.returns
returns c =
    answered c.take_no_vote.result _ _ _ c.from.ensures c.take_no_vote.ensures
