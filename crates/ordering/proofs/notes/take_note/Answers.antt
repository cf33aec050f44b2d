-- `take_note` meets its contract. Assumes nothing.
use Rattle.ordering.proofs.Taking.{note_refused, NoteTaken, note_taken}
use borrow.Author.Rules.{rules}
use Rattle.record.proofs.Turn.{raised, was_ok}
use Rattle.ordering.proofs.notes.take_note.Goals as goal
use Rattle.ordering.proofs.notes.take_note.Goals.{In_ok-check_note}

-- no question stopped the note
known : (c : In_ok-check_note) → NoteTaken c.args.state.now c.args.round c.args.signer c.args.kind
known c = note_taken _ _ _ _ _ c.check_note.ensures c.requires (was_ok c.in_ok-check_note.was)

pub returns-in_err-check_note : goal.returns-in_err-check_note
returns-in_err-check_note c =
    note_refused _ _ _ _ _ c.check_note.ensures _ c.in_err-check_note.was _ (raised _ c.from_residual.ensures.1)

pub masks_at-requires : goal.masks_at-requires
masks_at-requires c = let k = known c in search rules

pub add_member-requires : goal.add_member-requires
add_member-requires c = let k = known (goal.at.add_member-requires c).In_ok-check_note in search rules

pub returns : goal.returns
returns c = search (known (goal.at.returns c).In_ok-check_note).done
