-- The mask of the voters has exactly the members that are voters, so it meets the quorum exactly if they are enough.
use mathlib.Core.Path.{◌≡◌, refl, sym, ap, ◌∙◌}
use mathlib.Core.Bool.{Bool, true, false}
use mathlib.Core.Logic.{◌⊎◌, inl, inr}
use Prim.Native.Nat.{ℕ, zero, suc, ◌^◌, ◌≤◌, ◌<◌}
use native.Mathlib.Nat.{eq-or-lt_of_le}
use native.Mathlib.Omega.{arith}
use lib.Dec.{leb}
use lib.Pow.{pow_pos}
use Rattle.record.specs.Members.{quorum, has, add}
use Rattle.record.proofs.Booleans.{which}
use Rattle.record.proofs.Below.{count_cong}
use Rattle.record.proofs.Masks.{has_bound, has_add_same, has_add_other, add_lt, meets_count}
use Rattle.protocol.specs.Dag.{Dag, voter}
use Rattle.protocol.specs.Masks.{voters, VotersClaim}

module _ (n : ℕ) (d : Dag) (r i : ℕ) where
  abbrev vote : ℕ → Bool
  vote p = voter n d r i p

  -- the next member joins if it is a voter, and not otherwise
  voters_none : voters n d r i 0 ≡ 0
  unfolding voters
  voters_none = refl

  voters_in : (k : ℕ) → vote k ≡ true → voters n d r i (suc k) ≡ add (voters n d r i k) k
  unfolding voters
  voters_in k e = rw e

  voters_out : (k : ℕ) → vote k ≡ false → voters n d r i (suc k) ≡ voters n d r i k
  unfolding voters
  voters_out k e = rw e

  -- the mask with the next member, from what holds of it without
  lt_next : (m k : ℕ) → k < m → voters n d r i k < 2 ^ m → (vote k ≡ true) ⊎ (vote k ≡ false) → voters n d r i (suc k) < 2 ^ m
  lt_next m k l h (inl e) = rw (voters_in k e) (add_lt m (voters n d r i k) k h l)
  lt_next m k l h (inr e) = rw (voters_out k e) h

  pub voters_lt : (m k : ℕ) → k ≤ m → voters n d r i k < 2 ^ m
  voters_lt m zero l = rw voters_none (pow_pos m)
  voters_lt m (suc k) l = lt_next m k (omega arith) (voters_lt m k (omega arith)) (which (vote k))

  -- of the members below k there is no k
  no_last : (k : ℕ) → (has (voters n d r i k) k ≡ true) ⊎ (has (voters n d r i k) k ≡ false) → has (voters n d r i k) k ≡ false
  no_last k (inl h) = absurd (omega (arith, has_bound k (voters n d r i k) k (voters_lt k k (omega arith)) h))
  no_last k (inr h) = h

  has_next : (k p : ℕ) → (p < k → has (voters n d r i k) p ≡ vote p) → (vote k ≡ true) ⊎ (vote k ≡ false) → (p ≡ k) ⊎ (p < k)
      → has (voters n d r i (suc k)) p ≡ vote p
  has_next k p h (inl e) (inl q) = rw (voters_in k e, q) (has_add_same (voters n d r i k) k ∙ sym e)
  has_next k p h (inl e) (inr q) = rw (voters_in k e) (has_add_other (voters n d r i k) k p (λ e. absurd (omega arith)) ∙ h q)
  has_next k p h (inr e) (inl q) = rw (voters_out k e, q) (no_last k (which (has (voters n d r i k) k)) ∙ sym e)
  has_next k p h (inr e) (inr q) = rw (voters_out k e) (h q)

  pub voters_has : (k p : ℕ) → p < k → has (voters n d r i k) p ≡ vote p
  voters_has zero p l = absurd (omega arith)
  voters_has (suc k) p l = has_next k p (voters_has k p) (which (vote k)) (eq-or-lt_of_le (omega arith))

pub voters_claim : (n : ℕ) → VotersClaim n
voters_claim n d r i =
    meets_count n (voters n d r i n) (voters_lt n d r i n n (omega arith))
    ∙ ap (leb (quorum n)) (count_cong n (has (voters n d r i n)) (voter n d r i) (λ p l. voters_has n d r i n p l))
