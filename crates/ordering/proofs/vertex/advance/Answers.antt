-- `advance` meets its contract. Assumes nothing.
use Rattle.ordering.proofs.Carried.{carried_members, carried_raised}
use borrow.Author.Rules.{rules}
use Rattle.ordering.proofs.vertex.advance.Goals as goal

pub carry_timeouts-requires : goal.carry_timeouts-requires
carry_timeouts-requires c = search (rules, carried_members)

pub raise_round-requires : goal.raise_round-requires
raise_round-requires c = search (rules, carried_members)

pub returns : goal.returns
returns c = search carried_raised
