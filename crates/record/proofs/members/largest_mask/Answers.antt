use Rattle.record.proofs.Masks.{largest_few, largest_wide}
use mathlib.Core.Path.{sym, ap, ◌∙◌}
use Prim.Native.Nat.{ℕ, ◌-◌}
use native.Mathlib.Omega.{arith}
use lib.Pow.{pow_pos}
use Rattle.record.proofs.members.largest_mask.Goals as goal

pub returns-then-n-ge32 : goal.returns-then-n-ge32
returns-then-n-ge32 c = sym (largest_wide _ (omega arith))

pub returns : goal.returns
returns c = ap (λ (x : ℕ). x - 1) c.power.ensures ∙ sym (largest_few _ (omega arith))

pub overflow_sub-result : goal.overflow_sub-result
overflow_sub-result c = omega (arith, c.power.ensures, pow_pos c.args.n)
