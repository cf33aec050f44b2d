use Rattle.transcript.specs.Grammar.{is_digit, zero_digit}
use borrow.Author.Tests.{le-leb, lt-leb}
use Rattle.transcript.proofs.numeral.is_digit.Goals as goal

pub returns-then-b-lt-ZERO : goal.returns-then-b-lt-ZERO
unfolding is_digit
returns-then-b-lt-ZERO c = simp (lt-leb zero_digit _ c.if-b-lt-ZERO.true)

pub returns : goal.returns
unfolding is_digit
returns c = simp (le-leb zero_digit _ c.if-b-lt-ZERO.false)
