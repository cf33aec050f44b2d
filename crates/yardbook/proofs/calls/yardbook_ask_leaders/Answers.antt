use Rattle.yardbook.proofs.Laws.{answered}
use Rattle.yardbook.proofs.calls.yardbook_ask_leaders.Goals as goal

pub returns : goal.returns
returns c =
    answered c.ask_leaders.result _ _ _ c.from.ensures c.ask_leaders.ensures
