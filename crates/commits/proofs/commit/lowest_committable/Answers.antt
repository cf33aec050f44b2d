use Rattle.commits.proofs.Steps.{committable_at, committable_low}
use Rattle.commits.specs.Commit.{committable}
use Rattle.record.proofs.Below.{any_false, any_less, least_none, least_at, below_some, below_none}
use Rattle.record.specs.Members.{rounds}
use mathlib.Core.Path.{◌≡◌, sym, ◌∙◌}
use native.Mathlib.Omega.{arith}
use Rattle.commits.proofs.commit.lowest_committable.Goals as goal

pub loop-q-init : goal.loop-q-init
loop-q-init c = any_false _ _ (λ i l. committable_low _ i (omega arith))

pub returns-then-is_backed : goal.returns-then-is_backed
returns-then-is_backed c =
    below_some _ _ _ (sym (least_at rounds (committable c.args.state.now) c.loop-q.q c.loop-q-test.true c.loop-q.invariant
    (sym (committable_at _ _ c.loop-q.q c.requires.1 (omega arith) (omega arith))
    ∙ (sym c.is_backed.ensures ∙ c.if-is_backed.true)))) c.loop-q-test.true

pub loop-q-preserved : goal.loop-q-preserved
loop-q-preserved c =
    any_less _ _ c.loop-q.invariant
    (sym (committable_at _ _ c.loop-q.q c.requires.1 (omega arith) (omega arith))
    ∙ (sym c.is_backed.ensures ∙ c.if-is_backed.false))

pub returns : goal.returns
returns c =
    let e : c.loop-q.q ≡ rounds = omega arith in
    below_none _ _ (omega (arith, least_none rounds (committable c.args.state.now) (rw e at c.loop-q.invariant)))
