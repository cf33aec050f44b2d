use mathlib.Core.Path.{◌≡◌, ◌∙◌, sym}
use borrow.Author.Tests.{le-leb, lt-leb}
use Rattle.std.proofs.Common.{rules, tests}
use Rattle.std.proofs.iter.Serving.{serving}
use Rattle.record.proofs.Below.{all_range}
use Rattle.record.proofs.Masks.{legal_range}
use Rattle.record.specs.Below.{all}
use Rattle.replica.specs.State.{leader_count}
use Rattle.replica.specs.WellFormed.{leader_ok, leaders_ok}
use Rattle.replica.proofs.wellformed.leaders_ok.Goals as goal
use Rattle.replica.proofs.wellformed.leaders_ok.Goals.{After-all}

pub returns-then-count-gt-LEADERS_SIZE : goal.returns-then-count-gt-LEADERS_SIZE
unfolding leaders_ok
returns-then-count-gt-LEADERS_SIZE c =
    simp (lt-leb _ _ c.if-count-gt-LEADERS_SIZE.true)

pub all-requires-clause-callable : goal.all-requires-clause-callable
all-requires-clause-callable c = let g = legal_range _ c.requires.1 in grind serving

-- whether every leader passes
tested : (c : After-all) → c.all.result ≡ all (leader_count c.args.state.now) (leader_ok c.args.state.now)
tested c = all_range _ (leader_ok c.args.state.now) _ _ _ c.all.ensures.ran (λ x b q k. search (rules, tests))

pub returns-then-not-all : goal.returns-then-not-all
unfolding leaders_ok
returns-then-not-all c =
    let h = tested (goal.at.returns-then-not-all c).After-all in
    simp (le-leb _ _ c.if-count-gt-LEADERS_SIZE.false, sym h ∙ c.if-not-all.true)

pub returns : goal.returns
unfolding leaders_ok
returns c =
    let h = tested (goal.at.returns c).After-all in
    simp (le-leb _ _ c.if-count-gt-LEADERS_SIZE.false, sym h ∙ c.if-not-all.false) c.last_ok.ensures
