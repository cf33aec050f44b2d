-- Question 4 by itself, 5 and 6 as `check_signer` answers them; then the others decide.
use mathlib.Core.Path.{◌∙◌, ap, sym}
use borrow.Author.Tests.{eq-eqb, ne_eqb}
use borrow.Author.Rules.{rules}
use Rattle.record.specs.Questions.{record_questions}
use Rattle.record.specs.Refusals.{number_of}
use Rattle.record.specs.Admitted.{Placed}
use Rattle.record.specs.declared.group.Group.{Group}
use Rattle.record.proofs.Turn.{raised, next, stop, front_err, placed}
use Rattle.record.proofs.Handed.{handed_law}
use Rattle.record.proofs.questions.check_body.Goals as goal
use Rattle.record.proofs.questions.check_body.Goals.{In_ok-check_signer}

pub returns-then-body-ne-BODY_SIZE : goal.returns-then-body-ne-BODY_SIZE
unfolding record_questions
returns-then-body-ne-BODY_SIZE c = stop _ _ (ne_eqb _ _ c.if-body-ne-BODY_SIZE.true)

pub returns-in_err-check_signer : goal.returns-in_err-check_signer
unfolding record_questions
returns-in_err-check_signer c =
    next _ _ (eq-eqb _ _ c.if-body-ne-BODY_SIZE.false)
    (raised _ c.from_residual.ensures.1 ∙ sym (front_err _ _ (sym c.check_signer.ensures ∙ c.in_err-check_signer.was)))

-- 5 and 6 are answered yes
known : (c : In_ok-check_signer) → let a = c.args in Placed a.group.n a.round a.source
known c = placed _ _ _ (ap number_of (sym c.check_signer.ensures ∙ c.in_ok-check_signer.was))

pub of-requires : goal.of-requires
of-requires c = let k = known c in search rules

pub check_known-requires : goal.check_known-requires
check_known-requires c =
    let k = known (goal.at.check_known-requires c).In_ok-check_signer in
    rw (ap (λ (g : Group). g.n) c.of.ensures.0, c.of.ensures.1)
    (record { round_low = k.round_low; round_high = k.round_high; source_low = k.member_low; size = c.if-body-ne-BODY_SIZE.false })

pub returns : goal.returns
returns c =
    rw (c.of.ensures.0, c.of.ensures.1) at c.check_known.ensures ∙ handed_law _ _ c.args.group.enough _ _ _
