use mathlib.Core.Path.{sym}
use native.Mathlib.Omega.{arith}
use lib.Dec.{ltb}
use borrow.Author.Tests.{le-leb, le-ltb, lt-ltb}
use Rattle.record.specs.Members.{id_round}
use Rattle.record.specs.Questions.{weak_id_ok}
use Rattle.record.proofs.Booleans.{and_fails_left, and_fails_right}
use Rattle.record.proofs.Weak.{two_below}
use Rattle.record.proofs.questions.weak_id_ok.Goals as goal

pub returns-then-x-last : goal.returns-then-x-last
returns-then-x-last c = sym (and_fails_left _ (le-ltb _ _ c.if-x-last.true))

pub returns-then-n-x : goal.returns-then-n-x
unfolding weak_id_ok
returns-then-n-x c =
    sym (and_fails_right (ltb c.args.last c.args.x) (and_fails_left _ (le-ltb _ _ c.if-n-x.true)))

pub returns : goal.returns
unfolding weak_id_ok
returns c =
    simp (lt-ltb _ _ c.if-x-last.false, lt-ltb _ _ c.if-n-x.false, le-leb 1 (id_round c.args.x) (omega arith))
    (two_below c.args.round c.args.x (omega arith))
