-- `check_vertex` meets its contract. Assumes nothing.
use Rattle.ordering.proofs.Turns.{record_stops, RecordKnown, record_known}
use Rattle.ordering.specs.Calls.{place_questions}
use Rattle.record.specs.Layout.{round_of, source_of, body_of}
use Rattle.record.specs.Refusals.{Question}
use mathlib.Core.List.{List}
use mathlib.Core.Path.{sym, ◌∙◌}
use borrow.Author.Rules.{rules}
use Rattle.record.proofs.Turn.{raised, was_err, was_ok}
use Rattle.ordering.proofs.vertex.check_vertex.Goals as goal
use Rattle.ordering.proofs.vertex.check_vertex.Goals.{In_ok-check, Start}

abbrev rest : Start → List Question
rest s = place_questions (s.args.state.now) (round_of (s.args.rec.now)) (source_of (s.args.rec.now)) (body_of (s.args.rec.now))

-- the record's questions are passed
known : (c : In_ok-check) → let s : Start = (goal.at.In_ok-check c).Start in RecordKnown c.args.group.n c.args.rec.now (rest s)
known c = record_known _ _ _ _ c.check.ensures (was_ok c.in_ok-check.was)

pub returns-in_err-check : goal.returns-in_err-check
returns-in_err-check c =
    let s : Start = (goal.at.returns-in_err-check c).Start in
    raised _ c.from_residual.ensures.1 ∙ sym c.in_err-check.was
    ∙ record_stops c.args.group.n c.args.rec.now (rest s) _ c.check.ensures (was_err c.in_err-check.was)

pub bounds-rec-0 : goal.bounds-rec-0
bounds-rec-0 c = let k = known (goal.at.bounds-rec-0 c).In_ok-check in search rules

pub bounds-rec-1 : goal.bounds-rec-1
bounds-rec-1 c = let k = known (goal.at.bounds-rec-1 c).In_ok-check in search rules

pub slice_bounds-check_place-end : goal.slice_bounds-check_place-end
slice_bounds-check_place-end c = let k = known (goal.at.slice_bounds-check_place-end c).In_ok-check in search rules

pub check_place-requires : goal.check_place-requires
check_place-requires c = let k = known (goal.at.check_place-requires c).In_ok-check in search rules

pub returns : goal.returns
returns c = let k = known (goal.at.returns c).In_ok-check in k.last _ (rw k.whole at c.check_place.ensures)
