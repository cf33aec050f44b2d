-- The round rule: which round is the highest passable one, and what is written. Assumes nothing.
use mathlib.Core.Path.{◌≡◌, refl, sym, ap, ◌∙◌}
use mathlib.Core.Bool.{true, false}
use mathlib.Core.Logic.{◌⊎◌, inl, inr, ⊎_elim}
use mathlib.Core.List.{List}
use Prim.Native.Nat.{ℕ, zero, suc, ◌+◌, ◌^◌, ◌≤◌, ◌<◌}
use native.Mathlib.Omega.{arith}
use lib.Dec.{ltb}
use lib.ListN.{length, get_or, set}
use lib.Seq.{get_or-set_same, get_or-set_other, set-set}
use borrow.Author.Tests.{ltb-true, ltb-false, lt-ltb, le-leb}
use Rattle.record.specs.Below.{count}
use Rattle.record.specs.Members.{has, meets, quorum, rounds}
use Rattle.record.proofs.Booleans.{which, never, cond_true}
use Rattle.record.proofs.Masks.{meets_count}
use Rattle.replica.specs.Layout.{current_round_at, member_count_at, held_at, timeouts_at}
use Rattle.replica.specs.State.{current_round}
use Rattle.replica.proofs.Formed.{WellFormed}
use Rattle.commits.specs.Commit.{passable, highest_passable, raise_round}

-- a quorum by count
pub quorum_meets : (n m : ℕ) → m < 2 ^ n → quorum n ≤ count n (has m) → meets n m ≡ true
quorum_meets n m small h = meets_count n m small ∙ le-leb (quorum n) (count n (has m)) h

-- ---- the highest passable round

-- the highest passable round is among those asked
pub highest_high : (l : List ℕ) (k : ℕ) → highest_passable l k ≤ k
unfolding highest_passable
highest_high l zero = omega arith
highest_high l (suc k) = go (which (passable l (suc k))) (highest_high l k)
  where
    go : (passable l (suc k) ≡ true) ⊎ (passable l (suc k) ≡ false) → highest_passable l k ≤ k → highest_passable l (suc k) ≤ suc k
    go (inl e) ih = rw e (omega arith)
    go (inr e) ih = rw e (omega arith)

-- a passable round is at most the highest one
pub highest_least : (l : List ℕ) (k q : ℕ) → 1 ≤ q → q ≤ k → passable l q ≡ true → q ≤ highest_passable l k
unfolding highest_passable
highest_least l zero q a b e = absurd (omega arith)
highest_least l (suc k) q a b e = go (which (passable l (suc k))) (highest_least l k q a)
  where
    go : (passable l (suc k) ≡ true) ⊎ (passable l (suc k) ≡ false) → (q ≤ k → passable l q ≡ true → q ≤ highest_passable l k)
        → q ≤ highest_passable l (suc k)
    go (inl d) ih = rw d b
    go (inr d) ih = rw d (⊎_elim (λ c. absurd (never_both c)) (λ c. ih (omega (arith, ltb-false k q c)) e) (which (ltb k q)))
      where
        never_both : ltb k q ≡ true → ⊥
        never_both c = let same : q ≡ suc k = omega (arith, ltb-true k q c) in never (ap (passable l) (sym same) ∙ e) d

-- more passable rounds, no lower a highest one
pub highest_more : (l m : List ℕ) (k : ℕ) → ((q : ℕ) → 1 ≤ q → q ≤ k → passable l q ≡ true → passable m q ≡ true)
    → highest_passable l k ≤ highest_passable m k
unfolding highest_passable
highest_more l m zero h = omega arith
highest_more l m (suc k) h = go (which (passable l (suc k))) (which (passable m (suc k))) (highest_more l m k (λ q a b. h q a (omega arith)))
  where
    go : (passable l (suc k) ≡ true) ⊎ (passable l (suc k) ≡ false) → (passable m (suc k) ≡ true) ⊎ (passable m (suc k) ≡ false)
        → highest_passable l k ≤ highest_passable m k → highest_passable l (suc k) ≤ highest_passable m (suc k)
    go (inl e) d ih = rw (e, h (suc k) (omega arith) (omega arith) e) (omega arith)
    go (inr e) (inl d) ih = rw (e, d) (omega (arith, highest_high l k))
    go (inr e) (inr d) ih = rw (e, d) ih

-- the current round does not matter to it
passable_round : (l : List ℕ) (x q : ℕ) → passable (set l current_round_at x) q ≡ passable l q
unfolding passable
passable_round l x q = rw (
  get_or-set_other l current_round_at member_count_at x 0 (λ e. omega arith),
  get_or-set_other l current_round_at (held_at q) x 0 (λ e. omega arith),
  get_or-set_other l current_round_at (timeouts_at q) x 0 (λ e. omega arith),
)

highest_round : (l : List ℕ) (x k : ℕ) → highest_passable (set l current_round_at x) k ≡ highest_passable l k
highest_round l x k = omega (
  arith,
  highest_more (set l current_round_at x) l k (λ q a b e. sym (passable_round l x q) ∙ e),
  highest_more l (set l current_round_at x) k (λ q a b e. passable_round l x q ∙ e),
)

-- ---- the current round

-- what holds of the words as they were, and of those with the current round raised, holds of those that are left
pub raise_as : (l : List ℕ) (P : List ℕ → Type 0) → (1 + highest_passable l rounds ≤ current_round l → P l)
    → (current_round l < 1 + highest_passable l rounds → P (set l current_round_at (1 + highest_passable l rounds))) → P (raise_round l)
unfolding raise_round
raise_as l P same up = go (which (ltb (current_round l) (1 + highest_passable l rounds)))
  where
    go : (ltb (current_round l) (1 + highest_passable l rounds) ≡ true) ⊎ (ltb (current_round l) (1 + highest_passable l rounds) ≡ false) → P (raise_round l)
    go (inl e) = rw e (up (ltb-true _ _ e))
    go (inr e) = rw e (same (ltb-false _ _ e))

-- it is above the highest passable round then
pub raise_reaches : (l : List ℕ) → WellFormed l → 1 + highest_passable l rounds ≤ current_round (raise_round l)
raise_reaches l S = raise_as l (λ k. 1 + highest_passable l rounds ≤ current_round k) (λ h. h)
    (λ h. rw (get_or-set_same l current_round_at (1 + highest_passable l rounds) 0 (omega (arith, S.size))) (omega arith))

-- and no other word changes
pub raise_other : (l : List ℕ) (j : ℕ) → (j ≡ current_round_at → ⊥) → get_or (raise_round l) j 0 ≡ get_or l j 0
raise_other l j h = raise_as l (λ k. get_or k j 0 ≡ get_or l j 0) (λ e. refl)
    (λ e. get_or-set_other l current_round_at j (1 + highest_passable l rounds) 0 h)

-- a current round below it may as well have been raised a part of the way before
pub raise_part : (l : List ℕ) (x : ℕ) → current_round_at < length l → current_round l < 1 + highest_passable l rounds → x ≤ 1 + highest_passable l rounds
    → raise_round (set l current_round_at x) ≡ raise_round l
raise_part l x fits h k = raise_as (set l current_round_at x) (λ m. m ≡ raise_round l)
    (λ e. ap (set l current_round_at) (whole e) ∙ sym up)
    (λ e. ap (λ (q : ℕ). set (set l current_round_at x) current_round_at (1 + q)) same ∙ set-set l current_round_at x (1 + highest_passable l rounds) ∙ sym up)
  where
    same : highest_passable (set l current_round_at x) rounds ≡ highest_passable l rounds
    same = highest_round l x rounds

    whole : 1 + highest_passable (set l current_round_at x) rounds ≤ current_round (set l current_round_at x) → x ≡ 1 + highest_passable l rounds
    whole e = omega (arith, get_or-set_same l current_round_at x 0 fits, same)

    up : raise_round l ≡ set l current_round_at (1 + highest_passable l rounds)
    up = unfold raise_round in cond_true _ _ (lt-ltb _ _ h)
