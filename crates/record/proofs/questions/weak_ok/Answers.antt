-- None is used, and the slots decide; or not too many are; those that are and then the other slots decide: the lemmas are of `Weak`.
use borrow.Author.Rules.{rules}
use Rattle.record.specs.Layout.{weak_count_of}
use Rattle.record.proofs.Weak.{used_few, none_decide, weak_over, ids_no, slots_decide}
use Rattle.record.proofs.questions.weak_ok.Goals as goal

pub returns : goal.returns
unfolding weak_count_of
returns c = search slots_decide

pub returns-then-not-weak_ids_ok : goal.returns-then-not-weak_ids_ok
unfolding weak_count_of
returns-then-not-weak_ids_ok c = search ids_no

pub returns-then-body-eq0 : goal.returns-then-body-eq0
unfolding weak_count_of
returns-then-body-eq0 c = search none_decide

pub returns-then-most-body : goal.returns-then-most-body
unfolding weak_count_of
returns-then-most-body c = search weak_over

pub weak_ids_ok-requires : goal.weak_ids_ok-requires
unfolding weak_count_of
weak_ids_ok-requires c = let u = used_few c.args.body.now in search rules

pub slots_zero-requires-2 : goal.slots_zero-requires-2
unfolding weak_count_of
slots_zero-requires-2 c = let u = used_few c.args.body.now in search rules
