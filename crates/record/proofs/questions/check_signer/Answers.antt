use mathlib.Core.Path.{◌∙◌, sym}
use Rattle.record.specs.Questions.{signer_questions}
use Rattle.record.proofs.Turn.{next, stop, done}
use native.Mathlib.Omega.{arith}
use borrow.Author.Tests.{le-ltb, lt-ltb}
use Rattle.record.proofs.questions.check_signer.Goals as goal

pub returns-then-not-is_round : goal.returns-then-not-is_round
unfolding signer_questions
returns-then-not-is_round c = stop _ _ (sym c.is_round.ensures ∙ c.if-not-is_round.true)

pub returns-then-n-signer : goal.returns-then-n-signer
unfolding signer_questions
returns-then-n-signer c =
    next _ _ (sym c.is_round.ensures ∙ c.if-not-is_round.false) (stop _ _ (le-ltb c.args.signer c.args.n (omega arith)))

pub returns : goal.returns
unfolding signer_questions
returns c =
    next _ _ (sym c.is_round.ensures ∙ c.if-not-is_round.false) (next _ _ (lt-ltb c.args.signer c.args.n (omega arith)) done)
