-- `check_note` meets its contract. Assumes nothing.
use Rattle.ordering.proofs.Turns.{note_state, NoteKnown, note_known, SignerKnown, signer_known}
use Rattle.replica.specs.State.{mask_of}
use Prim.Native.Nat.{ℕ}
use mathlib.Core.Path.{sym, ◌∙◌}
use borrow.Author.Rules.{rules}
use Rattle.record.proofs.Turn.{raised, was_err, was_ok}
use Rattle.ordering.proofs.notes.check_note.Goals as goal
use Rattle.ordering.proofs.notes.check_note.Goals.{In_ok-check_state, In_ok-check_signer, Start}

-- the mask that the signer would join
abbrev mask : Start → ℕ
mask s = mask_of (s.args.state.now) s.args.kind s.args.round

-- the state's questions are passed
state : (c : In_ok-check_state) → let s : Start = (goal.at.In_ok-check_state c).Start in NoteKnown c.args.state.now c.args.round c.args.signer (mask s)
state c = note_known _ _ _ _ _ c.check_state.ensures (was_ok c.in_ok-check_state.was)

-- and those of the signer
known : (c : In_ok-check_signer) → let s : Start = (goal.at.In_ok-check_signer c).Start in SignerKnown c.args.state.now c.args.round c.args.signer (mask s)
known c =
    signer_known _ _ _ _ _ c.check_state.ensures (was_ok c.in_ok-check_state.was) _ c.check_signer.ensures
    (was_ok c.in_ok-check_signer.was)

pub returns-in_err-check_state : goal.returns-in_err-check_state
returns-in_err-check_state c =
    let s : Start = (goal.at.returns-in_err-check_state c).Start in
    raised _ c.from_residual.ensures.1 ∙ sym c.in_err-check_state.was
    ∙ note_state c.args.state.now c.args.round c.args.signer (mask s) _ c.check_state.ensures (was_err c.in_err-check_state.was)

pub returns-in_err-check_signer : goal.returns-in_err-check_signer
returns-in_err-check_signer c =
    raised _ c.from_residual-in_err-check_signer.ensures.1 ∙ sym c.in_err-check_signer.was
    ∙ (state (goal.at.returns-in_err-check_signer c).In_ok-check_state).stopped _ c.check_signer.ensures (was_err c.in_err-check_signer.was)

pub bounds-state-0 : goal.bounds-state-0
bounds-state-0 c = let k = state (goal.at.bounds-state-0 c).In_ok-check_state in search rules

pub mask_of-requires : goal.mask_of-requires
mask_of-requires c = let k = known c in search rules

pub has_bit-requires : goal.has_bit-requires
has_bit-requires c = let k = known (goal.at.has_bit-requires c).In_ok-check_signer in search rules

pub returns-then-has_bit : goal.returns-then-has_bit
returns-then-has_bit c = (known (goal.at.returns-then-has_bit c).In_ok-check_signer).again (cc)

pub returns : goal.returns
returns c = (known (goal.at.returns c).In_ok-check_signer).new (cc)
