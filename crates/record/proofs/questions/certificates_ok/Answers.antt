-- `certified_above`, `certified_few` and `certified_decides` of `Parts`.
use borrow.Author.Rules.{rules}
use Rattle.record.proofs.Parts.{certified_above, certified_few, certified_decides}
use Rattle.record.proofs.questions.certificates_ok.Goals as goal

pub returns-then-terms-timeouts : goal.returns-then-terms-timeouts
returns-then-terms-timeouts c = search (rules, certified_above)

pub returns-then-not-quorum_if : goal.returns-then-not-quorum_if
returns-then-not-quorum_if c = search (rules, certified_few)

pub returns : goal.returns
returns c = search (rules, certified_decides)
