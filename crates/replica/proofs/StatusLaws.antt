-- Laws of the state's questions. Assumes nothing.
use mathlib.Core.Path.{◌≡◌, refl}
use mathlib.Core.Bool.{true}
use mathlib.Core.List.{List}
use Prim.Native.Nat.{ℕ}
use lib.ListN.{length}
use borrow.Author.Tests.{eqb-true, eqb-false}
use Rattle.record.specs.Refusals.{number_of, first_no, numbered}
use Rattle.record.proofs.Turn.{both_yes}
use Rattle.replica.specs.Layout.{state_size}
use Rattle.replica.specs.WellFormed.{well_formed}
use Rattle.replica.specs.Status.{state_questions}

-- ---- the questions of the state

pub state_numbered : (l : List ℕ) → numbered (state_questions l) ≡ true
unfolding numbered
state_numbered l = refl

-- what the number 0 says
pub state_ok : (l : List ℕ) → number_of (first_no (state_questions l)) ≡ 0 → (length l ≡ state_size) × (well_formed l ≡ true)
state_ok l e =
    let q = both_yes _ _ _ (eqb-false 1 0 refl) e in
    let p = both_yes _ _ _ (eqb-false 3 0 refl) q.1 in
    (eqb-true (length l) state_size q.0, p.0)
