use Rattle.commits.specs.Commit.{committable}
use Rattle.record.specs.Below.{any}
use mathlib.Core.Bool.{false}
use mathlib.Core.Path.{◌≡◌}
use Rattle.commits.proofs.commit.lowest_committable.Given as goal

abbrev pub invariant-loop-q : goal.invariant-loop-q
invariant-loop-q l = any l.q (committable l.state) ≡ false
