use native.Mathlib.Omega.{arith}
use Rattle.transcript.proofs.Words.{word_stop, word_next, word_none}
use Rattle.transcript.proofs.numeral.word_end.Goals as goal

pub returns-then-line-i-eq-SPACE : goal.returns-then-line-i-eq-SPACE
returns-then-line-i-eq-SPACE c =
    omega (arith, word_stop c.args.line.now c.loop-i.i c.loop-i-test.true c.if-line-i-eq-SPACE.true)

pub loop-i-preserved : goal.loop-i-preserved
loop-i-preserved c =
    omega (arith, word_next c.args.line.now c.loop-i.i c.loop-i-test.true c.if-line-i-eq-SPACE.false)

pub returns : goal.returns
returns c =
    omega (arith, word_none c.args.line.now c.loop-i.i (omega arith))
