-- `passable_few`, `passable_led` and `passable_late` of `Laws`, by what the two tests of the held mask ask.
use Rattle.commits.proofs.Laws.{passable_few, passable_led, passable_late}
use Rattle.replica.specs.State.{held_mask}
use Rattle.record.specs.Members.{leader, has, meets}
use Rattle.record.proofs.Masks.{leader_small}
use Rattle.record.proofs.Handed.{meets_law}
use mathlib.Core.Path.{◌≡◌, sym, ◌∙◌}
use Prim.Native.Nat.{ℕ}
use native.Mathlib.Omega.{arith}
use borrow.Author.Rules.{rules}
use Rattle.commits.proofs.rounds.is_passable.Goals as goal
use Rattle.commits.proofs.rounds.is_passable.Goals.{After-has, After-meets_quorum, Start}

abbrev held : Start → ℕ
held s = held_mask s.args.state.now s.args.round

many : (c : After-meets_quorum) → let s : Start = (goal.at.After-meets_quorum c).Start in c.meets_quorum.result ≡ meets c.args.group.n (held s)
many c =
    (rw c.mask_of.ensures at c.meets_quorum.ensures) ∙ meets_law _ _ _ c.args.group.enough

led : (c : After-has) → let s : Start = (goal.at.After-has c).Start in c.has.result ≡ has (held s) (leader c.args.group.n c.args.round)
led c =
    rw (c.mask_of.ensures, c.leader_of.ensures) at c.has.ensures

pub returns-then-not-meets_quorum : goal.returns-then-not-meets_quorum
returns-then-not-meets_quorum c =
    passable_few _ _ _ c.requires.0.members (sym (many (goal.at.returns-then-not-meets_quorum c).After-meets_quorum) ∙ c.if-not-meets_quorum.true)

pub has-requires : goal.has-requires
has-requires c = let small = leader_small c.args.group.n c.args.round (omega arith) in search rules

pub returns-then-has : goal.returns-then-has
returns-then-has c =
    passable_led _ _ _ c.requires.0.members (sym (many (goal.at.returns-then-has c).After-meets_quorum) ∙ c.if-not-meets_quorum.false)
    (sym (led (goal.at.returns-then-has c).After-has) ∙ c.if-has.true)

pub returns : goal.returns
returns c =
    (rw c.mask_of-2.ensures at c.meets_quorum-2.ensures) ∙ meets_law _ _ _ c.args.group.enough
    ∙ passable_late _ _ _ c.requires.0.members (sym (many (goal.at.returns c).After-meets_quorum) ∙ c.if-not-meets_quorum.false)
    (sym (led (goal.at.returns c).After-has) ∙ c.if-has.false)
