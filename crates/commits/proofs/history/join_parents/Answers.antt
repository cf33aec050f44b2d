-- The strong mask is the first word of the vertex's cell; `join_weak` adds the rest.
use Rattle.commits.proofs.Laws.{cell_known, join_strong}
use mathlib.Core.Path.{◌∙◌}
use native.Mathlib.Omega.{arith}
use Rattle.commits.proofs.history.join_parents.Goals as goal

pub returns : goal.returns
returns c =
    let k = cell_known _ c.requires.0 _ _ _ (omega arith) c.requires.2 c.requires.3 c.cell_at-at.ensures in
    c.join_weak.ensures ∙ join_strong _ _ _ _ _ _ (omega arith) k.strong
