use Rattle.yardbook.proofs.Laws.{answered}
use Rattle.yardbook.proofs.calls.yardbook_open.Goals as goal
use Rattle.yardbook.proofs.calls.yardbook_open.Goals.{After-open}

pub returns : goal.returns
returns c =
    let after_open : After-open = (goal.at.returns c).After-open in answered after_open.«open».result _ _ _ c.from.ensures after_open.«open».ensures
