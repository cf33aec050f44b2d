use Rattle.commits.proofs.Steps.{voters_first, voters_all, voter_in, voter_out}
use Rattle.commits.proofs.Laws.{Cell, cell_known}
use Rattle.record.proofs.Masks.{leader_at_lt}
use mathlib.Core.Path.{◌≡◌, sym, ◌∙◌}
use Prim.Native.Nat.{◌+◌, ◌<◌}
use native.Mathlib.Omega.{arith}
use borrow.Author.Rules.{rules}
use Rattle.commits.proofs.commit.voters_for.Goals as goal
use Rattle.commits.proofs.commit.voters_for.Goals.{then-has_bit, else-has_bit}
use Rattle.commits.proofs.commit.voters_for.Goals.{After-cell_at-at, Start}

pub loop-p-init : goal.loop-p-init
loop-p-init c = voters_first _ _ _ _ _ c.requires.0 c.first_voters.ensures

voted_small : (c : Start) → c.args.voted < 32
voted_small c =
    let L = c.requires.0 in
    let S = L.standing in
    omega (arith, leader_at_lt c.args.n c.args.q c.args.i (omega (arith, S.low, L.members)), S.high, L.members, c.requires.1)

known : (c : After-cell_at-at) → Cell c.args.state.now (c.args.q + 1) c.loop-p.p c.cell_at-at.result
known c =
    let L = c.requires.0 in
    cell_known _ L.standing _ _ _ (omega arith) (omega (arith, L.high)) (omega (arith, L.standing.high, L.members)) c.cell_at-at.ensures

pub loop-p-preserved : goal.loop-p-preserved
loop-p-preserved c =
    let k = known (goal.at.loop-p-preserved c).After-cell_at-at in
    let i = c.loop-p-test.true in
    let e = sym (rw c.requires.1 at c.has_bit.ensures) in
    elim c.if-has_bit.branch [
      | then-has_bit w ↦ voter_in _ _ _ _ _ _ k i _ _ c.loop-p.invariant (e ∙ w.if-has_bit.true) (w.voters-is ∙ w.with-voters.ensures)
      | else-has_bit w ↦ voter_out _ _ _ _ _ _ k i _ _ c.loop-p.invariant (e ∙ w.if-has_bit.false) w.voters-is
    ]

pub returns : goal.returns
returns c =
    let e : c.loop-p.p ≡ c.args.n = omega arith in
    voters_all _ _ _ _ _ (rw e at c.loop-p.invariant)

pub has_bit-requires : goal.has_bit-requires
has_bit-requires c = let h = voted_small (goal.at.has_bit-requires c).Start in search rules
