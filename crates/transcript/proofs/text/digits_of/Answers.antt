use native.Mathlib.Omega.{arith}
use mathlib.Core.Path.{◌≡◌, refl}
use Prim.Native.Nat.{◌+◌, ◌-◌}
use Rattle.transcript.proofs.Digits.{digits_done, digits_out, digits_turn, decimal_zero, shown}
use borrow.Author.Rules.{rules}
use Rattle.transcript.proofs.text.digits_of.Goals as goal

pub returns-then-n-eq0 : goal.returns-then-n-eq0
returns-then-n-eq0 c = (refl, omega arith, decimal_zero _ c.if-n-eq0.true)

pub returns-then-rest-eq0 : goal.returns-then-rest-eq0
returns-then-rest-eq0 c =
    let start : c.loop-i.i - 1 + 1 ≡ c.loop-i.i = omega arith in
    (c.loop-i.invariant.0, omega arith, rw start (shown _ _ _ _ (digits_done c.loop-i.i _ c.if-rest-eq0.true) c.if-n-eq0.false c.loop-i.invariant.1))

pub loop-i-preserved : goal.loop-i-preserved
loop-i-preserved c = (
  search rules,
  digits_turn _ _ (c.loop-i.i - 1) c.loop-i.i _ _ (omega arith) (omega arith) c.if-rest-eq0.false
      c.last_digit.ensures c.loop-i.invariant.1,
)

pub returns : goal.returns
returns c =
    let start : c.loop-i.i ≡ 0 = omega arith in (
      c.loop-i.invariant.0,
      omega arith,
      rw start at (shown _ _ _ _ (digits_out c.loop-i.i c.loop-i.rest (omega arith)) c.if-n-eq0.false c.loop-i.invariant.1),
    )
