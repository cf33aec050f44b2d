use borrow.Author.Tests.{le-leb, lt-leb}
use Rattle.record.specs.Layout.{weak_count_of}
use Rattle.record.specs.Inner.{used_slots}
use Rattle.record.proofs.questions.used_slots.Goals as goal

pub returns-then-count-gt-WEAK_SLOTS : goal.returns-then-count-gt-WEAK_SLOTS
unfolding used_slots weak_count_of
returns-then-count-gt-WEAK_SLOTS c =
    simp (lt-leb _ _ c.if-count-gt-WEAK_SLOTS.true)

pub returns : goal.returns
unfolding used_slots weak_count_of
returns c =
    simp (le-leb _ _ c.if-count-gt-WEAK_SLOTS.false)
