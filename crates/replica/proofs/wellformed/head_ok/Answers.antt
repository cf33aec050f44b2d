-- The tests in turn; the lemmas are of `Clauses`.
use Rattle.replica.proofs.Clauses.{group_no, round_low, round_high, committed_high, own_decides}
use Rattle.replica.proofs.wellformed.head_ok.Goals as goal

pub returns : goal.returns
returns c = search (own_decides c.args.state.now)

pub returns-then-not-is_legal : goal.returns-then-not-is_legal
returns-then-not-is_legal c = search (group_no c.args.state.now)

pub returns-then-state-lt1 : goal.returns-then-state-lt1
returns-then-state-lt1 c = search (round_low c.args.state.now)

pub returns-then-state-gt-AFTER_LAST : goal.returns-then-state-gt-AFTER_LAST
returns-then-state-gt-AFTER_LAST c = search (round_high c.args.state.now)

pub returns-then-state-gt-VOTED_ROUNDS : goal.returns-then-state-gt-VOTED_ROUNDS
returns-then-state-gt-VOTED_ROUNDS c = search (committed_high c.args.state.now)
