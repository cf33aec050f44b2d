use mathlib.Core.Bool.{not}
use mathlib.Core.Path.{ap}
use Prim.Native.Nat.{◌<◌}
use native.Mathlib.Omega.{arith}
use borrow.Author.Rules.{rules}
use Rattle.record.proofs.Masks.{leader_at_lt}
use Rattle.commits.proofs.Running.{running_stop, running_all}
use Rattle.commits.proofs.walk.run_in.Goals as goal
use Rattle.commits.proofs.walk.run_in.Goals.{After-leader_at}

small : (c : After-leader_at) → c.leader_at.result < 32
small c =
    let B = c.requires in
    omega (arith, c.leader_at.ensures, leader_at_lt c.args.n c.args.round c.loop-i.i B.members, B.few_members)

pub returns-then-not-has_bit : goal.returns-then-not-has_bit
returns-then-not-has_bit c =
    running_stop _ _ _ _ _ _ _ c.loop-i.invariant c.loop-i-test.true c.leader_at.ensures c.has_bit.ensures (ap not c.if-not-has_bit.true)

pub returns : goal.returns
returns c = running_all _ _ _ _ _ c.loop-i.invariant (omega arith)

pub has_bit-requires : goal.has_bit-requires
has_bit-requires c = let z = small c in search rules
