-- The loop's invariant: the first i weak parents are joined.
use Rattle.protocol.specs.Masks.{join_weak}
use Rattle.replica.specs.State.{vertices}
use mathlib.Core.Path.{◌≡◌}
use Rattle.commits.proofs.history.join_weak.Given as goal

abbrev pub invariant-loop-i : goal.invariant-loop-i
invariant-loop-i l = l.masks ≡ join_weak l.initial.masks (vertices l.state l.round l.member) l.i
