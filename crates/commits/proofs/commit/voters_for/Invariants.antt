-- The loop's invariant: of the members below p the mask has the voters, and of the others those by first messages.
use Rattle.commits.proofs.Steps.{Voters}
use Rattle.commits.proofs.commit.voters_for.Given as goal

abbrev pub invariant-loop-p : goal.invariant-loop-p
invariant-loop-p l = Voters l.state l.n l.q l.i l.p l.voters
