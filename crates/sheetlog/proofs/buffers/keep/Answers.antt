use Rattle.sheetlog.proofs.Feeding.{keeps_more, keeps_full}
use Rattle.sheetlog.proofs.buffers.keep.Goals as goal

pub returns-then-kept-line-clause-line_after : goal.returns-then-kept-line-clause-line_after
returns-then-kept-line-clause-line_after c = keeps_more _ _ _ c.requires.0 c.if-kept-line.true

pub returns-clause-line_after : goal.returns-clause-line_after
returns-clause-line_after c = keeps_full _ _ _ c.requires.0 c.requires.1 c.if-kept-line.false
