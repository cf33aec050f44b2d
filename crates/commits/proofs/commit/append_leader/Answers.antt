use Rattle.commits.specs.Commit.{append_leader}
use Rattle.commits.proofs.Appending.{leader_at_small}
use native.Mathlib.Omega.{arith}
use Rattle.commits.proofs.commit.append_leader.Goals as goal

pub overflow_add-id : goal.overflow_add-id
overflow_add-id c =
    omega (arith, c.leader_at.ensures, leader_at_small c.args.n c.args.round c.args.i (omega arith) (omega arith))

pub returns : goal.returns
unfolding append_leader
returns c =
    rw c.leader_at.ensures
