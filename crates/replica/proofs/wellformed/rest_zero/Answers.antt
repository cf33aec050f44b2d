-- The part of each list from its count on is zero: `rest_no` and `rest_journal` of `Clauses`.
use Rattle.replica.proofs.Clauses.{rest_no, rest_journal}
use Rattle.replica.proofs.wellformed.rest_zero.Goals as goal

pub returns-then-not-is_zero : goal.returns-then-not-is_zero
returns-then-not-is_zero c = search rest_no

pub returns : goal.returns
returns c = search rest_journal
