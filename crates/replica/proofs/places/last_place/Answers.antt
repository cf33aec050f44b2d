-- `last_place` meets its contract. Assumes nothing.
use Rattle.replica.proofs.Seats.{end_at, place_none}
use Rattle.replica.specs.State.{last_leader, leader_index, last_place}
use Rattle.record.specs.Members.{most_leaders}
use mathlib.Core.Path.{◌≡◌, sym, ap, ◌∙◌}
use Prim.Native.Nat.{◌+◌, ◌≤◌}
use borrow.Author.Rules.{rules}
use Rattle.replica.proofs.places.last_place.Goals as goal
use Rattle.replica.proofs.places.last_place.Goals.{Else-count-eq0}

known : (c : Else-count-eq0)
    → let l = c.args.state.now in
    (leader_index l (last_leader l) ≤ most_leaders) × (leader_index l (last_leader l) + 1 ≡ last_place l)
known c = end_at _ c.if-count-eq0.false

pub returns-then-count-eq0 : goal.returns-then-count-eq0
returns-then-count-eq0 c =
    sym (place_none _ c.if-count-eq0.true)

pub overflow_add-result : goal.overflow_add-result
overflow_add-result c =
    let k = known (goal.at.overflow_add-result c).Else-count-eq0 in
    let e = c.index_of.ensures in
    search rules

pub returns : goal.returns
returns c =
    let k = known (goal.at.returns c).Else-count-eq0 in
    ap (λ x. x + 1) c.index_of.ensures ∙ k.1

pub index_of-requires : goal.index_of-requires
index_of-requires c = (c.requires.0, c.requires.1, c.requires.2)
