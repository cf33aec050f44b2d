use Rattle.commits.proofs.Laws.{highest_none, highest_here, highest_below}
use Rattle.commits.specs.Commit.{highest_passable}
use mathlib.Core.Path.{◌≡◌, ◌∙◌, sym, ap}
use native.Mathlib.Omega.{arith}
use Rattle.commits.proofs.rounds.highest_passable.Goals as goal

pub returns-then-is_passable : goal.returns-then-is_passable
returns-then-is_passable c = (
  sym (c.loop-round.invariant ∙ highest_here _ _ c.loop-round-test.true (sym c.is_passable.ensures ∙ c.if-is_passable.true)),
  omega arith,
)

pub loop-round-preserved : goal.loop-round-preserved
loop-round-preserved c =
    c.loop-round.invariant ∙ highest_below _ _ c.loop-round-test.true (sym c.is_passable.ensures ∙ c.if-is_passable.false)

pub returns : goal.returns
returns c =
    let e : c.loop-round.round ≡ 0 = omega arith in
    (sym (c.loop-round.invariant ∙ ap (highest_passable c.args.state.now) e ∙ sym (highest_none _)), omega arith)
