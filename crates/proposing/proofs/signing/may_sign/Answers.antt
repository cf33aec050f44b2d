-- Question 17: laws of `Asking`.
use native.Mathlib.Omega.{arith}
use Prim.Native.Nat.{◌-◌}
use Rattle.record.proofs.Masks.{leader_small}
use Rattle.proposing.proofs.Asking.{may_first, may_held, may_made}
use mathlib.Core.Path.{◌≡◌}
use Rattle.record.specs.Members.{leader, has}
use Rattle.replica.specs.State.{held_mask}
use Rattle.proposing.proofs.signing.may_sign.Goals as goal
use Rattle.proposing.proofs.signing.may_sign.Goals.{After-has}

pub has-requires : goal.has-requires
has-requires c =
    let small = leader_small c.args.n (c.args.round - 1) (omega (arith, c.requires.last)) in
    rw c.leader_of.ensures small

-- the test of the leader's vertex
led : (c : After-has) → c.has.result ≡ has (held_mask c.args.state.now (c.args.round - 1)) (leader c.args.n (c.args.round - 1))
led c =
    rw (c.mask_of.ensures, c.leader_of.ensures) at c.has.ensures

pub returns-then-round-lt2 : goal.returns-then-round-lt2
returns-then-round-lt2 c = may_first _ _ _ c.requires c.if-round-lt2.true

pub returns-then-has : goal.returns-then-has
returns-then-has c = may_held _ _ _ c.requires c.if-round-lt2.false _ (led (goal.at.returns-then-has c).After-has) c.if-has.true

pub returns : goal.returns
returns c = may_made _ _ _ c.requires c.if-round-lt2.false _ (led (goal.at.returns c).After-has) c.if-has.false _ c.marks_round.ensures
