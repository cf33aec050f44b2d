use Rattle.record.specs.Members.{legal}
use borrow.Author.Tests.{le-leb, lt-leb}
use Rattle.record.proofs.members.is_legal.Goals as goal

pub returns-then-n-lt4 : goal.returns-then-n-lt4
unfolding legal
returns-then-n-lt4 c = simp (lt-leb _ _ c.if-n-lt4.true)

pub returns-then-n-gt-SLOTS : goal.returns-then-n-gt-SLOTS
unfolding legal
returns-then-n-gt-SLOTS c =
    simp (le-leb _ _ c.if-n-lt4.false, lt-leb _ _ c.if-n-gt-SLOTS.true)

pub returns : goal.returns
unfolding legal
returns c =
    simp (le-leb _ _ c.if-n-lt4.false, le-leb _ _ c.if-n-gt-SLOTS.false)
