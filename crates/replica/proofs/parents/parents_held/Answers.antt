-- A record of round 1 has no parents; of a later one the strong mask and then the weak ids decide: the lemmas are of `ParentLaws`.
use borrow.Author.Rules.{rules}
use Prim.Native.Nat.{◌≤◌}
use mathlib.Core.Path.{◌≡◌}
use lib.ListN.{length}
use Rattle.record.specs.Members.{rounds}
use Rattle.record.specs.Layout.{body_size, strong_of}
use Rattle.replica.proofs.ParentLaws.{parents_size, parents_round, parents_weak, parents_none, strong_no, weak_decides}
use Rattle.replica.proofs.parents.parents_held.Goals as goal
use Rattle.replica.proofs.parents.parents_held.Goals.{Start}

known : (c : Start) → (length c.args.body.now ≡ body_size) × (c.args.round ≤ rounds)
known c = (parents_size _ _ _ c.requires, parents_round _ _ _ c.requires)

pub returns-then-round-lt2 : goal.returns-then-round-lt2
unfolding strong_of
returns-then-round-lt2 c = search parents_none

pub bounds-body-0 : goal.bounds-body-0
unfolding strong_of
bounds-body-0 c = let k = known (goal.at.bounds-body-0 c).Start in search rules

pub strong_held-requires : goal.strong_held-requires
unfolding strong_of
strong_held-requires c = let k = known (goal.at.strong_held-requires c).Start in search rules

pub returns-then-not-strong_held : goal.returns-then-not-strong_held
unfolding strong_of
returns-then-not-strong_held c = search strong_no

pub weak_held-requires : goal.weak_held-requires
unfolding strong_of
weak_held-requires c = search parents_weak

pub returns : goal.returns
unfolding strong_of
returns c = search weak_decides
