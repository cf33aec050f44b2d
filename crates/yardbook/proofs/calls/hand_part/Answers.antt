-- The number 0 bounds the count, and the span is the definition's: `part_none` and `HandKnown` of `Laws`.
use lib.ListN.{get_or}
use borrow.Author.Rules.{rules}
use Rattle.yardbook.proofs.Laws.{part_none, HandKnown, part_known}
use Rattle.yardbook.proofs.calls.hand_part.Goals as goal
use Rattle.yardbook.proofs.calls.hand_part.Goals.{Else-number-ne0}

known : (c : Else-number-ne0) → let a = c.args in HandKnown a.state.now a.k a.first (get_or a.state.now a.count 0)
known c = search part_known

pub returns-then-number-ne0 : goal.returns-then-number-ne0
returns-then-number-ne0 c = search part_none

pub overflow_add-result : goal.overflow_add-result
overflow_add-result c = let k = known c in search rules

pub bounds-state-count : goal.bounds-state-count
bounds-state-count c = let k = known (goal.at.bounds-state-count c).Else-number-ne0 in search rules

pub overflow_sub-result : goal.overflow_sub-result
overflow_sub-result c = let k = known (goal.at.overflow_sub-result c).Else-number-ne0 in search rules

pub returns : goal.returns
returns c = (known (goal.at.returns c).Else-number-ne0).given
