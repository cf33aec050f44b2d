-- With no refusal the state has all its words.
use mathlib.Core.Path.{◌≡◌, ◌∙◌, sym, ap}
use lib.ListN.{length}
use borrow.Author.Rules.{rules}
use Rattle.record.specs.Refusals.{number_of}
use Rattle.replica.proofs.StatusLaws.{state_ok}
use Rattle.replica.specs.Layout.{state_size}
use Rattle.replica.proofs.status.status.Goals as goal
use Rattle.replica.proofs.status.status.Goals.{In_ok-check_state}

known : (c : In_ok-check_state) → length c.args.state.now ≡ state_size
known c = (state_ok c.args.state.now (ap number_of (sym c.check_state.ensures ∙ c.in_ok-check_state.was))).0

pub bounds-state-1 : goal.bounds-state-1
bounds-state-1 c = let k = known (goal.at.bounds-state-1 c).In_ok-check_state in search rules

pub bounds-state-2 : goal.bounds-state-2
bounds-state-2 c = let k = known (goal.at.bounds-state-2 c).In_ok-check_state in search rules

pub bounds-state-3 : goal.bounds-state-3
bounds-state-3 c = let k = known (goal.at.bounds-state-3 c).In_ok-check_state in search rules

pub bounds-state-4 : goal.bounds-state-4
bounds-state-4 c = let k = known (goal.at.bounds-state-4 c).In_ok-check_state in search rules
