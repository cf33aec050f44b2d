-- The questions in turn: `next`, `stop` and `done` of `Turn`.
use mathlib.Core.Path.{◌∙◌, sym}
use borrow.Author.Tests.{eq-eqb, ne_eqb}
use Rattle.record.proofs.Turn.{next, stop, done}
use Rattle.replica.proofs.status.check_state.Goals as goal

pub returns-then-state-ne-STATE_SIZE : goal.returns-then-state-ne-STATE_SIZE
returns-then-state-ne-STATE_SIZE c = stop _ _ (ne_eqb _ _ c.if-state-ne-STATE_SIZE.true)

pub returns-then-not-is_well_formed : goal.returns-then-not-is_well_formed
returns-then-not-is_well_formed c =
    next _ _ (eq-eqb _ _ c.if-state-ne-STATE_SIZE.false) (stop _ _ (sym c.is_well_formed.ensures ∙ c.if-not-is_well_formed.true))

pub returns : goal.returns
returns c =
    next _ _ (eq-eqb _ _ c.if-state-ne-STATE_SIZE.false) (next _ _ (sym c.is_well_formed.ensures ∙ c.if-not-is_well_formed.false) done)
