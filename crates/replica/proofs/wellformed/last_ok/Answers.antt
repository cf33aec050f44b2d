-- The two cases of the last leader round.
use borrow.Author.Tests.{eq-eqb, ne_eqb}
use Rattle.replica.specs.WellFormed.{last_leader_round}
use Rattle.replica.proofs.wellformed.last_ok.Goals as goal

pub returns-then-count-eq0 : goal.returns-then-count-eq0
unfolding last_leader_round
returns-then-count-eq0 c =
    rw (← c.requires.1, eq-eqb _ _ c.if-count-eq0.true)

pub returns : goal.returns
unfolding last_leader_round
returns c =
    rw (← c.requires.1, ne_eqb _ _ c.if-count-eq0.false)
