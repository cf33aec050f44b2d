use Prim.Native.Nat.{◌+◌}
use mathlib.Core.Path.{refl}
use native.Mathlib.Omega.{arith}
use Rattle.transcript.proofs.Numerals.{not_led, no_digit, DigitRead, digit_read, counted}
use borrow.Author.Rules.{rules}
use Rattle.transcript.proofs.numeral.numeral.Goals as goal
use Rattle.transcript.proofs.numeral.numeral.Goals.{Else-not-is_digit}

-- the byte is a digit
known : (c : Else-not-is_digit) → DigitRead c.args.s.now c.loop-b.value c.loop-b.b-index
known c = search digit_read

pub returns-then-not-is_led : goal.returns-then-not-is_led
returns-then-not-is_led c = search not_led

pub returns-then-not-is_digit : goal.returns-then-not-is_digit
returns-then-not-is_digit c = search no_digit

pub overflow_sub-b : goal.overflow_sub-b
overflow_sub-b c = let k = known c in search rules

pub returns-in_err-checked_mul : goal.returns-in_err-checked_mul
returns-in_err-checked_mul c =
    let k = known (goal.at.returns-in_err-checked_mul c).Else-not-is_digit in
    rw c.from_residual.ensures (k.over _ refl (omega (arith, c.in_err-checked_mul.ensures)))

pub returns-in_err-value : goal.returns-in_err-value
returns-in_err-value c =
    let k = known (goal.at.returns-in_err-value c).Else-not-is_digit in
    rw c.from_residual-in_err-value.ensures (k.over (c.in_ok-checked_mul.field-0 + c.from-digit.result) (omega arith) (omega (arith, c.in_err-value.ensures)))

pub loop-b-preserved : goal.loop-b-preserved
loop-b-preserved c =
    (known (goal.at.loop-b-preserved c).Else-not-is_digit).next _ (omega arith) (omega arith)

pub returns : goal.returns
returns c = search counted
