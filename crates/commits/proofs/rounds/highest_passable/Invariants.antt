use Rattle.commits.specs.Commit.{highest_passable}
use mathlib.Core.Path.{◌≡◌}
use Rattle.record.specs.Members.{rounds}
use Rattle.commits.proofs.rounds.highest_passable.Given as goal

abbrev pub invariant-loop-round : goal.invariant-loop-round
invariant-loop-round l = highest_passable l.state rounds ≡ highest_passable l.state l.round
