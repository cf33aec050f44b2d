-- Laws of `longest`. Assumes nothing.
use mathlib.Core.Path.{◌≡◌, sym, ap, ◌∙◌}
use mathlib.Core.Bool.{Bool, true, not}
use mathlib.Core.Logic.{⊎_elim}
use Prim.Native.Nat.{ℕ, ◌≤◌, ◌<◌}
use native.Mathlib.Omega.{arith}
use lib.Dec.{leb}
use borrow.Author.Tests.{leb-true, leb-false, not-true, not-false}
use Rattle.record.proofs.Booleans.{which, never}
use Rattle.record.proofs.Below.{least_le, least_off, least_sat}
use Rattle.record.specs.Below.{longest}

pub longest_le : (m : ℕ) (s : ℕ → Bool) → longest m s ≤ m
unfolding longest
longest_le m s = least_le m (λ i. not (s i))

-- all of the run satisfies
pub longest_in : (m : ℕ) (s : ℕ → Bool) (i : ℕ) → i < longest m s → s i ≡ true
unfolding longest
longest_in m s i l = not-false (s i) (least_off m (λ i. not (s i)) i l)

-- it is as long as all of some first numbers satisfy
pub longest_reach : (m : ℕ) (s : ℕ → Bool) (k : ℕ) → k ≤ m → ((i : ℕ) → i < k → s i ≡ true) → k ≤ longest m s
unfolding longest
longest_reach m s k l h = ⊎_elim
    (λ e. leb-true k (longest m s) e)
    (λ e. let d : longest m s < k = leb-false k (longest m s) e in never (h (longest m s) d)
    (not-true (s (longest m s)) (least_sat m (λ i. not (s i)) (omega arith))))
    (which (leb k (longest m s)))

-- so its length is known by what satisfies
pub longest_cong : (m : ℕ) (s t : ℕ → Bool) → ((i : ℕ) → i < m → s i ≡ t i) → longest m s ≡ longest m t
longest_cong m s t h =
    omega (
      arith,
      longest_reach m t (longest m s) (longest_le m s) (λ i l. sym (h i (omega (arith, longest_le m s))) ∙ longest_in m s i l),
      longest_reach m s (longest m t) (longest_le m t) (λ i l. h i (omega (arith, longest_le m t)) ∙ longest_in m t i l),
    )

-- with one number, a test of 0
pub longest_one : (s : ℕ → Bool) → s 0 ≡ true → longest 1 s ≡ 1
longest_one s e = omega (arith, longest_le 1 s, longest_reach 1 s 1 (omega arith) (λ i l. ap s (zero_of i l) ∙ e))
  where
    zero_of : (i : ℕ) → i < 1 → i ≡ 0
    zero_of i l = omega arith

-- there is one where 0 satisfies
pub longest_some : (m : ℕ) (s : ℕ → Bool) → 1 ≤ m → s 0 ≡ true → 1 ≤ longest m s
longest_some m s l e = longest_reach m s 1 l (λ i k. ap s (zero_of i k) ∙ e)
  where
    zero_of : (i : ℕ) → i < 1 → i ≡ 0
    zero_of i l = omega arith
