-- `record_no`, `record_in` and `parents_decide` of `ParentLaws`.
use Rattle.replica.proofs.ParentLaws.{record_no, record_in, parents_decide}
use Rattle.replica.proofs.wellformed.record_ok.Goals as goal

pub returns-then-not-is_admitted : goal.returns-then-not-is_admitted
returns-then-not-is_admitted c = search record_no

pub parents_held-requires : goal.parents_held-requires
parents_held-requires c = search record_in

pub returns : goal.returns
returns c = search parents_decide
