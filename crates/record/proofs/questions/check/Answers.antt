use lib.ListN.{length, length-drop, drop}
use Rattle.record.specs.Questions.{record_questions}
use Rattle.record.proofs.Turn.{stop}
use borrow.Author.Tests.{ne_eqb}
use lib.ListN.{length-drop, drop}
use lib.Seq.{take_all}
use native.Mathlib.Omega.{arith}
use Rattle.record.specs.Layout.{body_size, body_place}
use Rattle.record.proofs.questions.check.Goals as goal

pub returns-then-rec-ne-RECORD_SIZE : goal.returns-then-rec-ne-RECORD_SIZE
unfolding record_questions
returns-then-rec-ne-RECORD_SIZE c =
    stop _ _ (ne_eqb (length (drop body_place c.args.rec.now)) body_size
    (λ e. c.if-rec-ne-RECORD_SIZE.true (omega (arith, length-drop body_place c.args.rec.now, e))))

pub returns : goal.returns
returns c =
    rw (take_all body_size (drop body_place c.args.rec.now) (omega (arith, length-drop body_place c.args.rec.now))) at c.check_body.ensures
