-- `retry` meets its contract. Assumes nothing.
use borrow.Author.Rules.{rules}
use Rattle.record.proofs.Turn.{raised, was_ok}
use Rattle.pending.proofs.Trying.{Tried, tried}
use Rattle.pending.proofs.sweep.retry.Goals as goal
use Rattle.pending.proofs.sweep.retry.Goals.{Start}

known : (s : Start) → Tried s.args.state.now s.args.group.n s.args.rec.now
known s = tried _ _ _ s.requires

pub check_place-requires : goal.check_place-requires
check_place-requires c = let k = known (goal.at.check_place-requires c).Start in k.placing

pub admit_vertex-requires : goal.admit_vertex-requires
admit_vertex-requires c =
    (known (goal.at.admit_vertex-requires c).Start).unstopped _ c.check_place.ensures (was_ok c.in_ok-check_place.was)

pub returns-in_err-check_place : goal.returns-in_err-check_place
returns-in_err-check_place c =
    (known (goal.at.returns-in_err-check_place c).Start).stopped _ c.check_place.ensures _ c.in_err-check_place.was _ (raised _ c.from_residual.ensures.1)

pub bounds-rec-0 : goal.bounds-rec-0
bounds-rec-0 c = let k = known (goal.at.bounds-rec-0 c).Start in search rules

pub bounds-rec-1 : goal.bounds-rec-1
bounds-rec-1 c = let k = known (goal.at.bounds-rec-1 c).Start in search rules

pub slice_bounds-check_place-end : goal.slice_bounds-check_place-end
slice_bounds-check_place-end c = let k = known (goal.at.slice_bounds-check_place-end c).Start in search rules
