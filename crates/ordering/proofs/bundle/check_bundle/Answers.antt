-- `check_bundle` meets its contract. Assumes nothing.
use mathlib.Core.Path.{◌∙◌, sym, ◌≡◌}
use Prim.Native.Nat.{◌≤◌}
use lib.ListN.{length}
use borrow.Author.Rules.{rules}
use Rattle.record.proofs.Turn.{raised, was_err, was_ok}
use Rattle.record.specs.Members.{rounds}
use Rattle.record.proofs.Rounds.{round_range}
use Rattle.replica.specs.Layout.{state_size}
use Rattle.ordering.proofs.Bundled.{bundle_state, bundle_size, bundle_off, bundle_wide, bundle_again, bundle_new}
use Rattle.ordering.proofs.bundle.check_bundle.Goals as goal
use Rattle.ordering.proofs.bundle.check_bundle.Goals.{Else-not-is_round, In_ok-check_state}

-- the state's questions are passed
size : (c : In_ok-check_state) → length c.args.state.now ≡ state_size
size c = bundle_size _ c.args.round c.args.mask _ c.check_state.ensures (was_ok c.in_ok-check_state.was)

-- and 5
range : (c : Else-not-is_round) → (1 ≤ c.args.round) × (c.args.round ≤ rounds)
range c = round_range _ (sym c.is_round.ensures ∙ c.if-not-is_round.false)

pub returns-in_err-check_state : goal.returns-in_err-check_state
returns-in_err-check_state c =
    raised _ c.from_residual.ensures.1 ∙ sym c.in_err-check_state.was ∙ bundle_state _ _ _ _ c.check_state.ensures (was_err c.in_err-check_state.was)

pub returns-then-not-is_round : goal.returns-then-not-is_round
returns-then-not-is_round c = let z = was_ok c.in_ok-check_state.was in search bundle_off

pub bounds-state-0 : goal.bounds-state-0
bounds-state-0 c = let a = size (goal.at.bounds-state-0 c).In_ok-check_state in search rules

pub returns-then-not-is_within : goal.returns-then-not-is_within
returns-then-not-is_within c = let z = was_ok c.in_ok-check_state.was in search bundle_wide

pub mask_of-noted-requires : goal.mask_of-noted-requires
mask_of-noted-requires c =
    let a = size (goal.at.mask_of-noted-requires c).In_ok-check_state in let b = range (goal.at.mask_of-noted-requires c).Else-not-is_round in search rules

pub returns-then-noted-mask : goal.returns-then-noted-mask
returns-then-noted-mask c = let z = was_ok c.in_ok-check_state.was in search bundle_again

pub returns : goal.returns
returns c = let z = was_ok c.in_ok-check_state.was in search bundle_new
