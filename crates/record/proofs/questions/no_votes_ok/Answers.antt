use Rattle.record.proofs.Turn.{wanted_leading, wanted_not}
use mathlib.Core.Path.{◌∙◌}
use borrow.Author.Tests.{eq-eqb, ne_eqb}
use Rattle.record.proofs.questions.no_votes_ok.Goals as goal

pub returns-then-leads : goal.returns-then-leads
returns-then-leads c =
    c.quorum_if.ensures ∙ wanted_leading _ _ _ _ (eq-eqb _ _ c.if-leads.true)

pub returns : goal.returns
returns c =
    wanted_not c.args.terms.now.group.quorum c.args.lack _ c.args.no_votes (ne_eqb _ _ c.if-leads.false)
