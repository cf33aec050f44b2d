-- `strong_first`, `strong_held` and `strong_less` of `Laws`.
use Prim.Native.Nat.{◌-◌}
use native.Mathlib.Omega.{arith}
use Rattle.record.proofs.Masks.{leader_small}
use Rattle.proposing.proofs.Laws.{strong_first, strong_held, strong_less}
use Rattle.proposing.proofs.making.strong_of.Goals as goal

pub without-rest-requires : goal.without-rest-requires
without-rest-requires c =
    let small = leader_small c.args.n (c.args.round - 1) (omega (arith, c.requires.high)) in
    rw c.leader_of.ensures small

pub returns-then-round-eq1 : goal.returns-then-round-eq1
returns-then-round-eq1 c = strong_first _ _ _ c.requires c.if-round-eq1.true

pub returns-then-not-marks_round : goal.returns-then-not-marks_round
returns-then-not-marks_round c = search strong_held

pub returns : goal.returns
returns c = search strong_less
