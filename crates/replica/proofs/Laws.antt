-- Laws of a loop's tests, of zero words, of masks that are joined, and of one mask within another. Assumes nothing.
use mathlib.Core.Path.{◌≡◌, refl, sym, ap, ◌∙◌}
use mathlib.Core.Bool.{Bool, true, false, not, ◌&&◌}
use Prim.Native.Nat.{ℕ, ◌+◌, ◌^◌, ◌≤◌, ◌<◌}
use native.Mathlib.Omega.{arith}
use lib.Bits.{bit_or, bit_and, and_le_l}
use borrow.Author.Tests.{eqb-true, eq-eqb}
use Rattle.record.specs.Below.{all}
use Rattle.record.specs.Members.{has, within}
use Rattle.record.proofs.Booleans.{and_left, and_right, and_both, bool_ext, passed, failed}
use Rattle.record.proofs.Below.{all_more, all_stop}
use Rattle.record.proofs.Masks.{has_and, mask_ext, within_or}
use Rattle.replica.specs.WellFormed.{subset}

-- ---- a loop that tests each number below n

pub all_no : (n : ℕ) (t : ℕ → Bool) (i : ℕ) (b : Bool) → i < n → b ≡ t i → not b ≡ true → false ≡ all n t
all_no n t i b h e f = sym (all_stop n t i h (failed e f))

pub all_yes : (t : ℕ → Bool) (i : ℕ) (b : Bool) → all i t ≡ true → b ≡ t i → not b ≡ false → all (i + 1) t ≡ true
all_yes t i b h e f = all_more i t h (passed e f)

pub all_end : (n : ℕ) (t : ℕ → Bool) (i : ℕ) → i ≤ n → n ≤ i → all i t ≡ true → true ≡ all n t
all_end n t i a b h = let e : i ≡ n = omega arith in sym (rw e at h)

-- ---- masks

-- a mask within another
pub subset_has : (a b p : ℕ) → subset a b ≡ true → has a p ≡ true → has b p ≡ true
subset_has a b p e h = and_right (has a p) (has b p) (sym (has_and a b p) ∙ ap (λ (x : ℕ). has x p) (eqb-true (bit_and a b) a e) ∙ h)

pub has_subset : (k a b : ℕ) → a < 2 ^ k → ((p : ℕ) → p < k → has a p ≡ true → has b p ≡ true) → subset a b ≡ true
has_subset k a b l h =
    eq-eqb (bit_and a b) a
    (mask_ext k (bit_and a b) a (omega (arith, and_le_l a b)) l
    (λ p q. has_and a b p ∙ bool_ext (λ e. and_left _ _ e) (λ e. and_both e (h p q e))))

-- six masks joined
pub join_within : (n a b c d e f : ℕ) → within n (bit_or (bit_or (bit_or (bit_or (bit_or a b) c) d) e) f)
    ≡ (within n a && (within n b && (within n c && (within n d && (within n e && within n f)))))
join_within n a b c d e f =
    rw (
      within_or n (bit_or (bit_or (bit_or (bit_or a b) c) d) e) f,
      within_or n (bit_or (bit_or (bit_or a b) c) d) e,
      within_or n (bit_or (bit_or a b) c) d,
      within_or n (bit_or a b) c,
      within_or n a b,
    )
    (six (within n a) (within n b) (within n c) (within n d) (within n e) (within n f))
  where
    six : (a b c d e f : Bool) → (((((a && b) && c) && d) && e) && f) ≡ (a && (b && (c && (d && (e && f)))))
    six true true true true e f = refl
    six true true true false e f = refl
    six true true false d e f = refl
    six true false c d e f = refl
    six false b c d e f = refl
