-- The tests in turn; the lemmas are of `Clauses`.
use Rattle.replica.proofs.Clauses.{own_high, own_member_lem, own_watcher}
use Rattle.replica.proofs.wellformed.own_ok.Goals as goal

pub returns-then-state : goal.returns-then-state
returns-then-state c = search (own_high c.args.state.now)

pub returns-then-state-ne-WATCHER : goal.returns-then-state-ne-WATCHER
returns-then-state-ne-WATCHER c = search (own_member_lem c.args.state.now)

pub returns : goal.returns
returns c = search (own_watcher c.args.state.now)
