-- `draft_is` of `Laws`; the terms are those of the round.
use mathlib.Core.Path.{◌≡◌, ◌∙◌, ap}
use mathlib.Core.Bool.{◌&&◌}
use lib.Dec.{eqb}
use Prim.Native.Nat.{ℕ, ◌-◌}
use borrow.Author.Rules.{rules}
use Rattle.record.specs.Members.{leader}
use Rattle.record.specs.Questions.{lacks_leader}
use Rattle.replica.specs.State.{own_word}
use Rattle.proposing.proofs.Laws.{wanted_later, led_later, draft_is}
use Rattle.proposing.proofs.making.draft_of.Goals as goal
use Rattle.proposing.proofs.making.draft_of.Goals.{After-lacks_leader-wants_timeouts, After-leads-wants_no_votes}

pub lacks_leader-wants_timeouts-requires : goal.lacks_leader-wants_timeouts-requires
lacks_leader-wants_timeouts-requires c = rw c.of-terms.ensures.1 c.requires.high

lacks : (c : After-lacks_leader-wants_timeouts) → c.lacks_leader-wants_timeouts.result ≡ lacks_leader c.args.group.n c.args.round c.strong_of-strong.result
lacks c = rw (c.of-terms.ensures.0, c.of-terms.ensures.1) at c.lacks_leader-wants_timeouts.ensures

leads : (c : After-leads-wants_no_votes)
    → c.leads-wants_no_votes.result ≡ (c.lacks_leader-wants_timeouts.result && eqb (own_word c.args.state.now - 1) (leader c.args.group.n c.args.round))
leads c =
    c.leads-wants_no_votes.ensures
    ∙ ap (λ (x : ℕ). c.lacks_leader-wants_timeouts.result && eqb (own_word c.args.state.now - 1) x)
    (rw (c.of-terms.ensures.0, c.of-terms.ensures.1) at c.of-terms.result.leader_is)

pub copied-requires : goal.copied-requires
copied-requires c = let w = wanted_later _ _ _ _ (lacks (goal.at.copied-requires c).After-lacks_leader-wants_timeouts) in search rules

pub copied-requires-2 : goal.copied-requires-2
copied-requires-2 c =
    let w = led_later _ _ _ _ _ _ (lacks (goal.at.copied-requires-2 c).After-lacks_leader-wants_timeouts) c.leads-wants_no_votes.ensures in
    search rules

pub returns : goal.returns
returns c =
    draft_is _ _ _ c.requires _ c.strong_of-strong.ensures
    _ (lacks (goal.at.returns c).After-lacks_leader-wants_timeouts) _ (leads (goal.at.returns c).After-leads-wants_no_votes)
    _ c.copied.ensures _ c.copied-2.ensures
