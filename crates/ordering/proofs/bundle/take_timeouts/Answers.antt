-- `take_timeouts` meets its contract. Assumes nothing.
use Rattle.ordering.proofs.Taking.{Ready, bundle_refused, BundleTaken, bundle_taken}
use Rattle.replica.specs.State.{member_count}
use borrow.Author.Rules.{rules}
use Rattle.record.proofs.Turn.{raised, was_ok}
use Rattle.ordering.proofs.bundle.take_timeouts.Goals as goal
use Rattle.ordering.proofs.bundle.take_timeouts.Goals.{After-add_members, In_ok-check_bundle}

-- no question stopped the bundle
known : (c : In_ok-check_bundle) → BundleTaken c.args.state.now c.args.round c.args.mask
known c = bundle_taken _ _ _ _ c.check_bundle.ensures (was_ok c.in_ok-check_bundle.was)

-- its mask is in the timeouts
joined : (c : After-add_members) → Ready (member_count c.add_members.new.state) c.add_members.new.state
joined c = search (known (goal.at.After-add_members c).In_ok-check_bundle).joined

pub returns-in_err-check_bundle : goal.returns-in_err-check_bundle
returns-in_err-check_bundle c =
    bundle_refused _ _ _ _ c.check_bundle.ensures _ c.in_err-check_bundle.was _ (raised _ c.from_residual.ensures.1)

pub masks_at-at-requires : goal.masks_at-at-requires
masks_at-at-requires c = let k = known c in search rules

pub add_members-requires : goal.add_members-requires
add_members-requires c = let k = known (goal.at.add_members-requires c).In_ok-check_bundle in search rules

pub bounds-state-0 : goal.bounds-state-0
bounds-state-0 c = let k = joined (goal.at.bounds-state-0 c).After-add_members in search rules

pub raise_round-requires : goal.raise_round-requires
raise_round-requires c = let k = joined (goal.at.raise_round-requires c).After-add_members in search rules

pub returns : goal.returns
returns c = search (known (goal.at.returns c).In_ok-check_bundle).done
