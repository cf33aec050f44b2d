-- `yardbook_take_vertex_with` meets its contract. Assumes nothing.
use Rattle.yardbook.proofs.Laws.{answered_with}
use Rattle.yardbook.proofs.calls.yardbook_take_vertex_with.Goals as goal

pub returns : goal.returns
returns c =
    answered_with c.take_vertex_with.result _ _ _ _ c.from.ensures c.take_vertex_with.ensures
