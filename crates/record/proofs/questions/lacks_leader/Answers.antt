use Rattle.record.specs.Members.{has}
use Rattle.record.proofs.Masks.{leader_small}
use mathlib.Core.Bool.{not}
use mathlib.Core.Path.{◌∙◌, ap}
use native.Mathlib.Omega.{arith}
use Prim.Native.Nat.{◌-◌}
use Rattle.record.specs.Questions.{lacks_leader}
use borrow.Author.Tests.{le-leb, lt-leb}
use Rattle.record.proofs.questions.lacks_leader.Goals as goal

pub returns-then-terms-lt2 : goal.returns-then-terms-lt2
unfolding lacks_leader
returns-then-terms-lt2 c = simp (lt-leb _ _ c.if-terms-lt2.true)

pub has_bit-requires : goal.has_bit-requires
has_bit-requires c =
    omega (arith, c.args.terms.now.previous_is, leader_small c.args.terms.now.group.n (c.args.terms.now.round - 1) (omega arith))

pub returns : goal.returns
unfolding lacks_leader
returns c =
    simp (le-leb _ _ c.if-terms-lt2.false) (ap not (c.has_bit.ensures ∙ ap (has c.args.strong) c.args.terms.now.previous_is))
