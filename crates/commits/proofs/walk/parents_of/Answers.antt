use Rattle.commits.proofs.Laws.{cell_known, parents_none, parents_in_lem, parents_out}
use mathlib.Core.Path.{sym, ◌∙◌}
use native.Mathlib.Omega.{arith}
use Rattle.commits.proofs.walk.parents_of.Goals as goal
use Rattle.commits.proofs.walk.parents_of.Goals.{then-has_bit, else-has_bit}

pub loop-p-preserved : goal.loop-p-preserved
loop-p-preserved c = elim c.if-has_bit.branch [
  | then-has_bit w ↦ let k = cell_known _ c.requires.0 _ _ _ c.requires.2 c.requires.3 (omega (arith, c.requires.0.high)) w.cell_at-at.ensures in
      parents_in_lem _ _ _ _ _ _ _ k c.loop-p.invariant (sym c.has_bit.ensures ∙ w.if-has_bit.true) w.joined-is
  | else-has_bit w ↦ parents_out _ _ _ _ _ _ c.loop-p.invariant (sym c.has_bit.ensures ∙ w.if-has_bit.false) w.joined-is
]

pub loop-p-init : goal.loop-p-init
loop-p-init c = parents_none _ _ _
