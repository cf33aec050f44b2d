-- `check_place` meets its contract. Assumes nothing.
use Rattle.ordering.proofs.Turns.{PlaceKnown, place_known}
use mathlib.Core.Path.{sym, ◌∙◌}
use borrow.Author.Rules.{rules}
use Rattle.record.proofs.Below.{below_is, below_off}
use Rattle.ordering.proofs.vertex.check_place.Goals as goal
use Rattle.ordering.proofs.vertex.check_place.Goals.{Start}

known : (s : Start) → PlaceKnown s.args.state.now s.args.n s.args.round s.args.source s.args.body.now
known s = search place_known

pub mask_of-requires : goal.mask_of-requires
mask_of-requires c = let k = known (goal.at.mask_of-requires c).Start in search rules

pub has_bit-requires : goal.has_bit-requires
has_bit-requires c = let k = known (goal.at.has_bit-requires c).Start in search rules

pub same_body-requires : goal.same_body-requires
same_body-requires c = let k = known (goal.at.same_body-requires c).Start in search rules

pub returns-then-same_body : goal.returns-then-same_body
returns-then-same_body c = (known (goal.at.returns-then-same_body c).Start).same (cc) (cc)

pub returns-then-has_bit : goal.returns-then-has_bit
returns-then-has_bit c = (known (goal.at.returns-then-has_bit c).Start).other (cc) (cc)

pub first_missing-requires : goal.first_missing-requires
first_missing-requires c = record { source = c.args.source; placing = c.requires }

pub returns-in-Some : goal.returns-in-Some
returns-in-Some c =
    let w = below_is _ _ _ (sym c.in-Some.is ∙ c.first_missing.ensures) in
    (known (goal.at.returns-in-Some c).Start).lacking _ (cc) w.0 w.1

pub returns : goal.returns
returns c = (known (goal.at.returns c).Start).free (cc) (below_off _ _ (sym c.in_default.is ∙ c.first_missing.ensures))
