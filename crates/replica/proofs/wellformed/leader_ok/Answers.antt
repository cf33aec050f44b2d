-- The tests in turn.
use mathlib.Core.Path.{◌∙◌, sym, ◌≡◌, ap}
use mathlib.Core.Bool.{true}
use Prim.Native.Nat.{ℕ, ◌<◌}
use native.Mathlib.Omega.{arith}
use lib.Dec.{eqb}
use Rattle.replica.specs.State.{width, leader_index, leader_word, held_id}
use Rattle.replica.proofs.Seats.{entry_no, entry_none, entry_first, entry_later}
use Rattle.replica.proofs.wellformed.leader_ok.Goals as goal
use Rattle.replica.proofs.wellformed.leader_ok.Goals.{Else-not-is_marked, Else-width_of-index}

pub returns-then-not-is_marked : goal.returns-then-not-is_marked
returns-then-not-is_marked c =
    entry_no c.args.state.now c.args.i (sym c.is_marked.ensures ∙ c.if-not-is_marked.true)

there : (c : Else-not-is_marked) → held_id c.args.state.now (leader_word c.args.state.now c.args.i) ≡ true
there c = sym c.is_marked.ensures ∙ c.if-not-is_marked.false

low : (c : Else-width_of-index) → leader_index c.args.state.now (leader_word c.args.state.now c.args.i) < width
    c.args.state.now
low c =
    let h = c.if-width_of-index.false in
    omega (arith, c.index_of-index.ensures, c.width_of.ensures, h)

pub returns-then-width_of-index : goal.returns-then-width_of-index
returns-then-width_of-index c =
    let h = c.if-width_of-index.true in
    entry_none c.args.state.now c.args.i (there (goal.at.returns-then-width_of-index c).Else-not-is_marked)
    (omega (arith, c.index_of-index.ensures, c.width_of.ensures, h))

pub returns-then-i-eq0 : goal.returns-then-i-eq0
returns-then-i-eq0 c =
    entry_first c.args.state.now c.args.i _ (there (goal.at.returns-then-i-eq0 c).Else-not-is_marked)
    (low (goal.at.returns-then-i-eq0 c).Else-width_of-index) c.if-i-eq0.true (ap (λ (x : ℕ). eqb x 0) c.index_of-index.ensures)

pub returns : goal.returns
returns c =
    entry_later c.args.state.now c.args.i _ (there (goal.at.returns c).Else-not-is_marked)
    (low (goal.at.returns c).Else-width_of-index) c.if-i-eq0.false (rw c.index_of-index.ensures at c.comes_next.ensures)
