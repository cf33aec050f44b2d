-- `is_backed` meets its contract. Assumes nothing.
use Rattle.commits.proofs.Steps.{held_word, not_led, by_voters}
use Rattle.replica.specs.State.{vertices}
use Rattle.protocol.specs.Dag.{held}
use Rattle.record.specs.Members.{leader_at}
use Rattle.record.proofs.Masks.{leader_at_lt}
use Rattle.record.proofs.Handed.{meets_law}
use native.Mathlib.Omega.{arith}
use mathlib.Core.Path.{sym, ◌≡◌, ◌∙◌}
use borrow.Author.Rules.{rules}
use Rattle.commits.proofs.commit.is_backed.Goals as goal
use Rattle.commits.proofs.commit.is_backed.Goals.{After-has_bit}

-- the first test asks whether the leader's vertex is held
led : (c : After-has_bit) → let a = c.args in c.has_bit.result
    ≡ held (vertices a.state.now) a.q (leader_at a.group.n a.q a.i)
led c =
    let L = c.requires in
    let S = L.standing in
    let small = leader_at_lt c.args.group.n c.args.q c.args.i (omega (arith, S.low, L.members)) in
    cc (
      held_word _ S c.args.q (leader_at c.args.group.n c.args.q c.args.i) L.low (omega (arith, L.high))
          (omega (arith, S.high, L.members)),
      L.members,
    )

pub leader_at-leader-requires : goal.leader_at-leader-requires
leader_at-leader-requires c = let L = c.requires in let S = L.standing in search rules

pub has_bit-requires : goal.has_bit-requires
has_bit-requires c =
    let L = c.requires in
    let S = L.standing in
    let small = leader_at_lt c.args.group.n c.args.q c.args.i (omega (arith, S.low, L.members)) in
    search rules

pub returns-then-not-has_bit : goal.returns-then-not-has_bit
returns-then-not-has_bit c = not_led _ _ _ _ (sym (led (goal.at.returns-then-not-has_bit c).After-has_bit) ∙ c.if-not-has_bit.true)

pub returns : goal.returns
returns c =
    c.meets_quorum.ensures ∙ meets_law _ _ _ c.args.group.enough
    ∙ by_voters _ _ _ _ _ c.voters_for-voters.ensures (sym (led (goal.at.returns c).After-has_bit) ∙ c.if-not-has_bit.false)
