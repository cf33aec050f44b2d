use Rattle.transcript.proofs.Words.{Turn, turn}
use Rattle.transcript.proofs.command.read_words.Goals as goal
use Rattle.transcript.proofs.command.read_words.Goals.{At-loop-i}

known : (c : At-loop-i) → Turn c.args.line.now c.args.count c.loop-i.words c.loop-i.at c.loop-i.i
known c = turn _ _ _ _ _ c.loop-i.invariant

pub returns-then-line-at : goal.returns-then-line-at
returns-then-line-at c = search (known (goal.at.returns-then-line-at c).At-loop-i).short

pub returns-then-line-at-ne-SPACE : goal.returns-then-line-at-ne-SPACE
returns-then-line-at-ne-SPACE c = search (known (goal.at.returns-then-line-at-ne-SPACE c).At-loop-i).apart

pub slice_bounds-numeral-end : goal.slice_bounds-numeral-end
slice_bounds-numeral-end c = search (known (goal.at.slice_bounds-numeral-end c).At-loop-i).fits

pub returns-in_err-words : goal.returns-in_err-words
returns-in_err-words c =
    rw c.from_residual.ensures ((known (goal.at.returns-in_err-words c).At-loop-i).bad c.loop-i-test.true c.if-line-at.false
    _ c.word_end-end.ensures c.in_err-words.ensures)

pub loop-i-preserved : goal.loop-i-preserved
loop-i-preserved c =
    (known (goal.at.loop-i-preserved c).At-loop-i).next c.loop-i-test.true c.if-line-at.false c.if-line-at-ne-SPACE.false
    _ _ c.word_end-end.ensures c.in_ok-words.ensures

pub returns-then-at-line : goal.returns-then-at-line
returns-then-at-line c = search (known (goal.at.returns-then-at-line c).At-loop-i).more

pub returns : goal.returns
returns c = search (known (goal.at.returns c).At-loop-i).done
