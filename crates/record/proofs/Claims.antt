-- Terms of the claims of `specs/Claims`. Assumes nothing.
use mathlib.Core.Path.{◌≡◌, sym, subst}
use mathlib.Core.Bool.{Bool, true, not}
use Prim.Native.Nat.{ℕ, ◌+◌, ◌*◌, ◌≤◌, ◌<◌}
use native.Mathlib.Omega.{arith}
use Rattle.record.specs.Below.{count}
use Rattle.record.specs.Members.{faulty}
use Rattle.record.specs.Claims.{WithLaw, WithoutLaw, CountLaw, MeetLaw, ApartLaw}
use Rattle.record.proofs.Below.{meet}
use Rattle.record.proofs.Masks.{legal_range, leaders_apart, has_add_same, has_add_other, has_remove_same, has_remove_other, ones_count}

pub with_law : WithLaw
with_law m p = (has_add_same m.bits p, λ q h. has_add_other m.bits p q h)

pub without_law : WithoutLaw
without_law m p = (has_remove_same m.bits p, λ q h. has_remove_other m.bits p q h)

pub count_law : CountLaw
count_law n m l = ones_count n m l

meets_at : (f n : ℕ) → 3 * f + 1 ≡ n → (s t h : ℕ → Bool) → 2 * f + 1 ≤ count n s → 2 * f + 1 ≤ count n t → count n (λ p. not (h p)) ≤ f
    → (p : ℕ) × (p < n) × (s p ≡ true) × (t p ≡ true) × (h p ≡ true)
meets_at f n e s t h =
    subst (λ (k : ℕ). 2 * f + 1 ≤ count k s → 2 * f + 1 ≤ count k t → count k (λ p. not (h p)) ≤ f
    → (p : ℕ) × (p < k) × (s p ≡ true) × (t p ≡ true) × (h p ≡ true)) e (meet f s t h)

pub meet_law : MeetLaw
meet_law n e s t h = meets_at (faulty n) n (sym e) s t h

pub apart_law : ApartLaw
apart_law n g r i j a b e = leaders_apart n r i j (omega (arith, (legal_range n g).low)) (omega (arith, (legal_range n g).low)) e
