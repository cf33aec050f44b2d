-- An id that is not ordered finds room in the journal.
use Rattle.commits.proofs.Steps.{ordered_word, order_out, order_old, order_new}
use Rattle.commits.proofs.Growing.{enter_fits}
use Rattle.replica.specs.State.{ordered_id}
use mathlib.Core.Path.{◌≡◌, sym, ◌∙◌}
use mathlib.Core.Bool.{false}
use native.Mathlib.Omega.{arith}
use borrow.Author.Rules.{rules}
use Rattle.commits.proofs.commit.order_id.Goals as goal
use Rattle.commits.proofs.commit.order_id.Goals.{After-has_bit-2, Else-has_bit}

-- the second test asks whether the vertex is ordered
ordered : (c : After-has_bit-2) → c.has_bit-2.result ≡ ordered_id c.args.state.now c.args.id
ordered c =
    ordered_word c.args.state.now c.args.id _ _ c.requires.1 c.requires.2 c.mask_of.ensures c.has_bit-2.ensures

fresh : (c : Else-has_bit) → ordered_id c.args.state.now c.args.id ≡ false
fresh c = sym (ordered (goal.at.Else-has_bit c).After-has_bit-2) ∙ c.if-has_bit.false

pub enter_id-requires : goal.enter_id-requires
enter_id-requires c =
    let space = enter_fits c.args.state.now c.args.id c.requires.0 (omega arith) (omega arith) c.requires.3
    (fresh (goal.at.enter_id-requires c).Else-has_bit) in
    search rules

pub returns : goal.returns
returns c =
    c.enter_id.ensures ∙ order_new _ _ _ (sym c.has_bit.ensures ∙ c.if-not-has_bit.false) (fresh (goal.at.returns c).Else-has_bit)

pub returns-then-not-has_bit : goal.returns-then-not-has_bit
returns-then-not-has_bit c = order_out _ _ _ (sym c.has_bit.ensures ∙ c.if-not-has_bit.true)

pub returns-then-has_bit : goal.returns-then-has_bit
returns-then-has_bit c = order_old _ _ _ (sym (ordered (goal.at.returns-then-has_bit c).After-has_bit-2) ∙ c.if-has_bit.true)
