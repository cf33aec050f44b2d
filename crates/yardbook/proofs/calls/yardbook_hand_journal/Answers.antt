use Rattle.yardbook.proofs.Laws.{numbered}
use borrow.Author.Rules.{rules}
use Rattle.yardbook.proofs.calls.yardbook_hand_journal.Goals as goal

-- the number is that of asking
pub hand_part-requires : goal.hand_part-requires
hand_part-requires c =
    let e = numbered c.ask_journal.result _ _ _ c.from-asked.ensures c.ask_journal.ensures in
    search rules
