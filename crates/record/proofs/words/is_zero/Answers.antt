use borrow.Author.Rules.{rules}
use Rattle.record.specs.Below.{all}
use Rattle.record.proofs.Zeros.{zero_more}
use Rattle.record.proofs.words.is_zero.Goals as goal

pub loop-word-init : goal.loop-word-init
unfolding all
loop-word-init c = search rules

pub loop-word-preserved : goal.loop-word-preserved
loop-word-preserved c = zero_more c.args.part.now c.loop-word.joined c.loop-word.word-index c.loop-word.invariant
