use Rattle.record.specs.Handed.{handed_if}
use Rattle.record.proofs.questions.quorum_if.Goals as goal

pub returns-then-wanted : goal.returns-then-wanted
unfolding handed_if
returns-then-wanted c =
    rw c.if-wanted.true c.meets_quorum.ensures

pub returns : goal.returns
unfolding handed_if
returns c = rw c.if-wanted.false
