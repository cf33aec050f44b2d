use mathlib.Core.Path.{◌∙◌, sym}
use mathlib.Core.Logic.{inl, inr}
use borrow.Author.Rules.{rules}
use Rattle.ordering.proofs.Missing.{Search, searched}
use Rattle.ordering.proofs.search.first_missing_strong.Goals as goal
use Rattle.ordering.proofs.search.first_missing_strong.Goals.{Start, then-has_bit+else-not-is_marked, else-has_bit}

known : (s : Start)
    → Search s.args.n s.args.round s.args.state.now s.args.body.now
known s = searched _ _ _ _ s.requires.searching

pub loop-p-init : goal.loop-p-init
loop-p-init c = (known (goal.at.loop-p-init c).Start).strong_none c.requires.weak_held

pub loop-p-preserved : goal.loop-p-preserved
loop-p-preserved c =
    (known (goal.at.loop-p-preserved c).Start).strong_more _ (search) _ c.has_bit.ensures
    (elim c.if-has_bit.branch [
      | then-has_bit+else-not-is_marked v ↦ inr (sym v.is_marked.ensures ∙ v.if-not-is_marked.false)
      | else-has_bit v ↦ inl v.if-has_bit.false
    ])

pub bounds-body-0 : goal.bounds-body-0
bounds-body-0 c = let k = known (goal.at.bounds-body-0 c).Start in search rules

pub has_bit-requires : goal.has_bit-requires
has_bit-requires c = let k = known (goal.at.has_bit-requires c).Start in search rules

pub overflow_sub-parent : goal.overflow_sub-parent
overflow_sub-parent c = let k = known (goal.at.overflow_sub-parent c).Start in search rules

pub overflow_mul-parent : goal.overflow_mul-parent
overflow_mul-parent c = let k = known (goal.at.overflow_mul-parent c).Start in search rules

pub overflow_add-parent : goal.overflow_add-parent
overflow_add-parent c = let k = known (goal.at.overflow_add-parent c).Start in search rules

pub is_marked-requires : goal.is_marked-requires
is_marked-requires c = let k = known (goal.at.is_marked-requires c).Start in search rules

pub returns-then-not-is_marked : goal.returns-then-not-is_marked
returns-then-not-is_marked c = search (known (goal.at.returns-then-not-is_marked c).Start).strong_lacks

pub returns : goal.returns
returns c = search (known (goal.at.returns c).Start).strong_all
