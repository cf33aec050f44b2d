-- The loop's invariant: the state is on the way from the first one. Each commit brings the leader list further.
use Rattle.commits.proofs.Repeating.{Onward, reach}
use Rattle.commits.specs.Commit.{most_commits}
use Prim.Native.Nat.{◌-◌}
use Rattle.commits.proofs.commit.commit_all.Given as goal

abbrev pub invariant-loop-group : goal.invariant-loop-group
invariant-loop-group l = Onward l.initial.state l.state

abbrev pub decreases-loop-group : goal.decreases-loop-group
decreases-loop-group l = most_commits - reach l.state
