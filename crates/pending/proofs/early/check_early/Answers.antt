-- `check_early` meets its contract. Assumes nothing.
use Rattle.record.proofs.Booleans.{passed, failed}
use Rattle.record.proofs.Turn.{next, stop}
use Rattle.pending.proofs.early.check_early.Goals as goal

pub returns-then-not-is_buffer : goal.returns-then-not-is_buffer
returns-then-not-is_buffer c =
    stop _ _ (failed c.is_buffer.ensures (cc))

pub returns : goal.returns
returns c =
    next _ _ (passed c.is_buffer.ensures (cc)) c.check_vertex.ensures
