use lib.ListN.{length, length-set}
use mathlib.Core.Path.{ap}
use Rattle.replica.specs.State.{add_member}
use Rattle.commits.specs.Commit.{enter}
use native.Mathlib.Omega.{arith}
use Rattle.commits.proofs.commit.enter_id.Goals as goal

pub bounds-state-4-2 : goal.bounds-state-4-2
unfolding add_member
bounds-state-4-2 c =
    simp length-set (omega (arith, simp length-set at (ap length c.add_member.ensures), c.requires.0))

pub returns : goal.returns
unfolding enter add_member
returns c =
    rw (c.add_member.ensures, c.masks_at-at.ensures)
