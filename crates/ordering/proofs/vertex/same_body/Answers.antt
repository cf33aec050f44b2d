use mathlib.Core.Path.{◌∙◌}
use native.Mathlib.Omega.{arith}
use Rattle.record.specs.Layout.{body_size}
use Rattle.ordering.specs.Calls.{same_body}
use Rattle.ordering.proofs.SameWords.{part_compared}
use Rattle.ordering.proofs.vertex.same_body.Goals as goal

pub returns : goal.returns
unfolding same_body
returns c =
    rw (← c.cell_at-at.ensures)
    (c.eq.ensures ∙ part_compared body_size c.cell_at-at.result c.args.state.now c.args.body.now (omega arith) (omega arith))
