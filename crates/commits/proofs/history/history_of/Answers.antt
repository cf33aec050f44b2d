use mathlib.Core.Path.{◌∙◌, ap}
use Prim.Native.Nat.{ℕ}
use Rattle.protocol.specs.Masks.{reach_masks}
use Rattle.replica.specs.State.{vertices}
use Rattle.commits.proofs.history.history_of.Goals as goal

pub returns : goal.returns
returns c =
    c.reach_of.ensures ∙ ap (λ (m : ℕ). reach_masks c.args.n (vertices c.args.state.now) c.args.round m) c.power.ensures
