-- Question 5 and those behind it: laws of `Asking`.
use Rattle.proposing.specs.Inner.{Current}
use Rattle.replica.specs.State.{current_round}
use Rattle.proposing.proofs.Asking.{making_late, making_asked}
use borrow.Author.Rules.{rules}
use native.Mathlib.Omega.{arith}
use Rattle.proposing.proofs.making.check_propose.Goals as goal
use Rattle.proposing.proofs.making.check_propose.Goals.{Else-round-gt-ROUNDS}

-- a record can be made for the current round
ready : (c : Else-round-gt-ROUNDS) → Current c.args.state.now c.args.group.n (current_round c.args.state.now)
ready c = record { opened = c.requires; high = omega (arith, c.if-round-gt-ROUNDS.false) }

pub bounds-state-1 : goal.bounds-state-1
bounds-state-1 c = let k = c.requires.size in search rules

pub returns-then-round-gt-ROUNDS : goal.returns-then-round-gt-ROUNDS
returns-then-round-gt-ROUNDS c = search making_late

pub draft_of-requires : goal.draft_of-requires
draft_of-requires c = ready (goal.at.draft_of-requires c).Else-round-gt-ROUNDS

pub check_draft-requires : goal.check_draft-requires
check_draft-requires c = (ready (goal.at.check_draft-requires c).Else-round-gt-ROUNDS, c.draft_of.ensures)

pub returns : goal.returns
returns c = let low = c.requires.low in search making_asked
