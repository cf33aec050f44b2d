use mathlib.Core.Path.{◌≡◌, ◌∙◌, ap}
use mathlib.Core.Bool.{not}
use borrow.Author.Rules.{rules}
use Prim.Native.Nat.{ℕ, ◌≤◌, ◌<◌}
use native.Mathlib.Omega.{arith}
use Rattle.record.proofs.Below.{all_none}
use Rattle.record.proofs.Masks.{legal_range}
use Rattle.record.specs.Members.{slots}
use Rattle.replica.specs.WellFormed.{cell_ok}
use Rattle.replica.proofs.Laws.{all_no, all_yes}
use Rattle.replica.proofs.wellformed.members_ok.Goals as goal
use Rattle.replica.proofs.wellformed.members_ok.Goals.{Start, After-cell_ok}

known : (c : Start) → (0 < c.args.group.n) × (c.args.group.n ≤ slots)
known c = let g = legal_range _ c.requires.words.group in (omega arith, omega arith)

pub of-terms-requires : goal.of-terms-requires
of-terms-requires c = let k = known (goal.at.of-terms-requires c).Start in search rules

pub loop-p-init : goal.loop-p-init
loop-p-init c = (c.cell_at-at.ensures, all_none _)

pub cell_ok-requires : goal.cell_ok-requires
cell_ok-requires c = let k = known (goal.at.cell_ok-requires c).Start in search rules

-- the terms are those of the round
tested : (c : After-cell_ok) → c.cell_ok.result ≡ cell_ok c.args.state.now c.args.round c.loop-p.p
tested c = c.cell_ok.ensures ∙ ap (λ (r : ℕ). cell_ok c.args.state.now r c.loop-p.p) c.of-terms.ensures.1

pub returns-then-not-cell_ok : goal.returns-then-not-cell_ok
returns-then-not-cell_ok c =
    all_no _ _ c.loop-p.p _ c.loop-p-test.true (tested (goal.at.returns-then-not-cell_ok c).After-cell_ok) (ap not c.if-not-cell_ok.true)

pub loop-p-preserved : goal.loop-p-preserved
loop-p-preserved c =
    let t = tested (goal.at.loop-p-preserved c).After-cell_ok in
    search (rules, all_yes)
