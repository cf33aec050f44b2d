use Rattle.replica.proofs.Seats.{index_no_id, index_least}
use Rattle.replica.proofs.Width.{width_most}
use Rattle.record.proofs.Below.{least_range}
use Rattle.record.proofs.Rounds.{round_range}
use Rattle.record.specs.Members.{id_round, is_round}
use Rattle.std.proofs.Common.{rules, tests}
use Rattle.std.proofs.iter.Serving.{serving}
use mathlib.Core.Bool.{not, true}
use mathlib.Core.Path.{ap, ◌≡◌, sym, ◌∙◌}
use Rattle.replica.proofs.places.index_of.Goals as goal
use Rattle.replica.proofs.places.index_of.Goals.{Else-not-is_id}

id : (c : Else-not-is_id) → is_round (id_round c.args.x) ≡ true
id c = sym c.is_id.ensures ∙ c.if-not-is_id.false

pub returns-then-not-is_id : goal.returns-then-not-is_id
returns-then-not-is_id c =
    index_no_id c.args.state.now _ _ _ c.is_id.ensures (ap not c.if-not-is_id.true) c.width_of-width.ensures

pub find-requires-clause-callable : goal.find-requires-clause-callable
find-requires-clause-callable c =
    let most = width_most c.args.state.now in
    let is = c.width_of-width.ensures in
    let r = round_range _ (id (goal.at.find-requires-clause-callable c).Else-not-is_id) in
    grind serving

pub returns : goal.returns
returns c =
    index_least c.args.state.now _ _ _ _ (id (goal.at.returns c).Else-not-is_id) c.requires.1 c.width_of-width.ensures
    (c.unwrap_or.ensures ∙ least_range _ _ _ _ _ c.find.ensures.ran (λ x b q k. search (rules, tests)))
