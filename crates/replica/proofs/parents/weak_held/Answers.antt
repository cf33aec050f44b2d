use mathlib.Core.Path.{ap}
use mathlib.Core.Bool.{not}
use native.Mathlib.Omega.{arith}
use borrow.Author.Rules.{rules}
use Rattle.record.specs.Layout.{weak_count_of, weak_of}
use Rattle.record.proofs.Below.{all_none}
use Rattle.replica.specs.State.{held_id}
use Rattle.replica.proofs.Laws.{all_no, all_yes, all_end}
use Rattle.replica.proofs.ParentLaws.{weak_held_id}
use Rattle.replica.proofs.parents.weak_held.Goals as goal

pub loop-i-init : goal.loop-i-init
loop-i-init c = (omega arith, all_none _)

-- all that are used are held
pub returns-then-count-i : goal.returns-then-count-i
unfolding weak_count_of
returns-then-count-i c =
    all_end _ _ c.loop-i.i (omega arith) (omega arith) c.loop-i.invariant.1

pub mask_of-requires : goal.mask_of-requires
unfolding weak_of weak_count_of
mask_of-requires c =
    let low = c.requires.low c.loop-i.i (omega arith) in
    let high = c.requires.high c.loop-i.i (omega arith) in
    search rules

pub returns-then-not-has_bit : goal.returns-then-not-has_bit
unfolding weak_of weak_count_of
returns-then-not-has_bit c =
    let e = weak_held_id _ _ c.requires c.loop-i.i (omega arith) _ (rw c.mask_of.ensures at c.has_bit.ensures) in
    all_no _ (λ k. held_id c.args.state.now (weak_of c.args.body.now k)) _ _ (omega arith) e (ap not c.if-not-has_bit.true)

pub loop-i-preserved : goal.loop-i-preserved
unfolding weak_of weak_count_of
loop-i-preserved c =
    let e = weak_held_id _ _ c.requires c.loop-i.i (omega arith) _ (rw c.mask_of.ensures at c.has_bit.ensures) in
    (omega arith, all_yes _ _ _ c.loop-i.invariant.1 e (ap not c.if-not-has_bit.false))
