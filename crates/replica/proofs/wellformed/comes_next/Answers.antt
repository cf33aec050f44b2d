-- The tests in turn.
use mathlib.Core.Path.{refl, ap}
use Prim.Native.Nat.{ℕ, ◌+◌}
use lib.Dec.{eqb}
use Rattle.record.specs.Members.{id_round}
use borrow.Author.Rules.{rules}
use Rattle.replica.specs.State.{leader_index}
use Rattle.replica.proofs.Width.{width_most}
use Rattle.replica.proofs.Seats.{index_le, next_main, next_other, next_same}
use Rattle.replica.proofs.wellformed.comes_next.Goals as goal

pub returns-then-index-eq0 : goal.returns-then-index-eq0
returns-then-index-eq0 c =
    next_main (id_round c.args.before) (leader_index c.args.state.now c.args.before + 1) (id_round c.args.x) c.args.index _
    c.if-index-eq0.true refl

pub returns-then-x-before : goal.returns-then-x-before
returns-then-x-before c =
    next_other _ _ _ _ c.if-index-eq0.false c.if-x-before.true

pub overflow_add-result : goal.overflow_add-result
overflow_add-result c =
    let k = index_le c.args.state.now c.args.before in
    let m = width_most c.args.state.now in
    let e = c.index_of.ensures in
    search rules

pub returns : goal.returns
returns c =
    next_same _ _ _ _ _ c.if-index-eq0.false c.if-x-before.false (ap (λ (x : ℕ). eqb c.args.index (x + 1)) c.index_of.ensures)
