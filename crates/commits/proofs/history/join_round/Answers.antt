use Rattle.commits.proofs.Laws.{join_round_none, join_round_in, join_round_out}
use mathlib.Core.Path.{sym, ◌∙◌}
use Rattle.commits.proofs.history.join_round.Goals as goal
use Rattle.commits.proofs.history.join_round.Goals.{then-has_bit, else-has_bit}

pub loop-p-preserved : goal.loop-p-preserved
loop-p-preserved c = elim c.if-has_bit.branch [
  | then-has_bit w ↦ join_round_in _ _ _ _ _ _ _ c.loop-p.invariant (sym c.has_bit.ensures ∙ w.if-has_bit.true) (w.masks-is ∙ w.join_parents.ensures)
  | else-has_bit w ↦ join_round_out _ _ _ _ _ _ _ c.loop-p.invariant (sym c.has_bit.ensures ∙ w.if-has_bit.false) w.masks-is
]

pub loop-p-init : goal.loop-p-init
loop-p-init c = join_round_none _ _ _ _
