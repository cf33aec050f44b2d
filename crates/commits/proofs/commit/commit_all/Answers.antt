use Rattle.commits.proofs.Repeating.{onward_start, onward_end, onward_next, Later}
use Rattle.record.proofs.Booleans.{cond_true, cond_false}
use mathlib.Core.Path.{sym, ◌∙◌}
use Rattle.commits.proofs.commit.commit_all.Goals as goal
use Rattle.commits.proofs.commit.commit_all.Goals.{In-loop-group}

later : (c : In-loop-group) → Later c.args.group.n c.args.state.now c.loop-group.state c.commit_once.new.state
later c =
    let h = sym c.commit_once.ensures.0 ∙ c.loop-group-test.true in
    onward_next _ _ _ _ c.requires.1 c.loop-group.invariant h (c.commit_once.ensures.1 ∙ cond_true _ _ h)

pub returns : goal.returns
returns c =
    let h = sym c.commit_once.ensures.0 ∙ c.loop-group-test.false in
    onward_end _ _ _ c.loop-group.invariant h (c.commit_once.ensures.1 ∙ cond_false _ _ h)

pub loop-group-init : goal.loop-group-init
loop-group-init c = onward_start _ c.requires.0

pub loop-group-smaller : goal.loop-group-smaller
loop-group-smaller c = (later c).less

pub loop-group-preserved : goal.loop-group-preserved
loop-group-preserved c = (later c).onward
