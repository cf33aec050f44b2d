use Rattle.yardbook.proofs.Laws.{answered}
use Rattle.yardbook.proofs.calls.yardbook_ask_journal.Goals as goal

pub returns : goal.returns
returns c =
    answered c.ask_journal.result _ _ _ c.from.ensures c.ask_journal.ensures
