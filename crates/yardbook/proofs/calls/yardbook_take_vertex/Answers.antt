use Rattle.yardbook.proofs.Laws.{answered}
use Rattle.yardbook.proofs.calls.yardbook_take_vertex.Goals as goal

pub returns : goal.returns
returns c =
    answered c.take_vertex.result _ _ _ c.from.ensures c.take_vertex.ensures
