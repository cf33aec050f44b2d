-- The number 0 bounds the count, and the part lies where the list does: `Handing` of `ListLaws`.
use lib.ListN.{get_or}
use borrow.Author.Rules.{rules}
use Rattle.replica.proofs.ListLaws.{hand_none, Handing, handing}
use Rattle.replica.proofs.lists.hand_list.Goals as goal
use Rattle.replica.proofs.lists.hand_list.Goals.{Else-is_err}

known : (c : Else-is_err)
    → let a = c.args in Handing a.state a.k a.first (get_or a.state.now a.count 0)
known c = search handing

pub returns-then-is_err : goal.returns-then-is_err
returns-then-is_err c = search hand_none

pub bounds-state-count : goal.bounds-state-count
bounds-state-count c = let k = known (goal.at.bounds-state-count c).Else-is_err in search rules

pub overflow_add-end : goal.overflow_add-end
overflow_add-end c = let k = known (goal.at.overflow_add-end c).Else-is_err in search rules

pub slice_bounds-result-count : goal.slice_bounds-result-count
slice_bounds-result-count c = let k = known (goal.at.slice_bounds-result-count c).Else-is_err in search rules

pub slice_bounds-result-start : goal.slice_bounds-result-start
slice_bounds-result-start c = let k = known (goal.at.slice_bounds-result-start c).Else-is_err in search rules

pub slice_bounds-result-end-2 : goal.slice_bounds-result-end-2
slice_bounds-result-end-2 c = let k = known (goal.at.slice_bounds-result-end-2 c).Else-is_err in search rules

pub returns : goal.returns
returns c = (known (goal.at.returns c).Else-is_err).done
