use Rattle.commits.proofs.Laws.{reach_start, fill_none, fill_step}
use Rattle.protocol.specs.Masks.{fill}
use Rattle.replica.specs.State.{vertices}
use mathlib.Core.Path.{◌≡◌, sym, ap, ◌∙◌}
use mathlib.Core.List.{List}
use Prim.Native.Nat.{ℕ, ◌-◌}
use native.Mathlib.Omega.{arith}
use Rattle.commits.proofs.history.reach_of.Goals as goal

pub loop-r-init : goal.loop-r-init
loop-r-init c = reach_start _ _ _ _ c.requires.3

pub loop-r-preserved : goal.loop-r-preserved
loop-r-preserved c =
    c.loop-r.invariant ∙ fill_step _ _ _ c.loop-r.r _ (omega arith) (omega arith)
    ∙ ap (λ (h : List ℕ). fill c.args.n (vertices c.args.state.now) h (c.loop-r.r - 1 - 1)) (sym c.join_round.ensures)

pub returns : goal.returns
returns c =
    let e : c.loop-r.r - 1 ≡ 0 = omega arith in
    sym (c.loop-r.invariant ∙ ap (fill c.args.n (vertices c.args.state.now) c.loop-r.masks) e ∙ fill_none _ _ _)
