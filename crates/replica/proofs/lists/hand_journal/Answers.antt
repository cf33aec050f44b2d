use mathlib.Core.Path.{refl}
use mathlib.Core.Logic.{inr}
use native.Mathlib.Omega.{arith}
use Rattle.replica.proofs.lists.hand_journal.Goals as goal

pub hand_list-requires : goal.hand_list-requires
hand_list-requires c = record { inside = omega arith; low = omega arith; high = omega arith; list = inr (refl, refl) }
