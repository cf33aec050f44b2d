-- Invariant: the first i weak ids are held, and no more than there are.
use mathlib.Core.Path.{◌≡◌}
use mathlib.Core.Bool.{true}
use Prim.Native.Nat.{◌≤◌}
use Rattle.record.specs.Below.{all}
use Rattle.record.specs.Layout.{weak_count_of, weak_of}
use Rattle.replica.specs.State.{held_id}
use Rattle.replica.proofs.parents.weak_held.Given as goal

abbrev pub invariant-loop-i : goal.invariant-loop-i
invariant-loop-i l = (l.i ≤ weak_count_of l.body) × (all l.i (λ k. held_id l.state (weak_of l.body k)) ≡ true)
