use Rattle.sheetlog.proofs.Feeding.{holds_none, holds_turn}
use borrow.Author.Rules.{rules}
use Rattle.sheetlog.proofs.buffers.answer_block.Goals as goal

pub loop-b-init : goal.loop-b-init
loop-b-init c =
    (search rules, holds_none _ _ _ _ c.requires.line_size c.requires.kept)

pub loop-b-preserved : goal.loop-b-preserved
loop-b-preserved c =
    (search rules, holds_turn _ _ _ _ c.loop-b-test.true c.loop-b.invariant.1 c.take_byte-fill.ensures.holds)
