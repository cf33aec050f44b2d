-- Tests of all the numbers below k. Each combinator goes by rising numbers, so that a rising loop keeps it at its index.
use Rattle.std.specs.Prelude.{Bool, true, false, cond, not, ◌&&◌, ◌||◌, List, [], ◌∷◌, ◌++◌, ℕ, zero, suc, ◌+◌, ltb, Option, Some, None}

-- every number below k satisfies t
unfoldable pub all : ℕ → (ℕ → Bool) → Bool
all zero t = true
all (suc k) t = all k t && t k

-- some number below k satisfies t
unfoldable pub any : ℕ → (ℕ → Bool) → Bool
any zero t = false
any (suc k) t = any k t || t k

-- how many numbers below k satisfy t
unfoldable pub count : ℕ → (ℕ → Bool) → ℕ
count zero t = 0
count (suc k) t = count k t + cond (t k) 1 0

-- the numbers below k that satisfy t, rising
unfoldable pub select : ℕ → (ℕ → Bool) → List ℕ
select zero t = []
select (suc k) t = select k t ++ cond (t k) (k ∷ []) []

-- the least number below k that satisfies t, and k if none does
unfoldable pub least : ℕ → (ℕ → Bool) → ℕ
least zero t = 0
least (suc k) t = cond (any k t) (least k t) (cond (t k) k (suc k))

-- x where it lies below k
abbrev pub if_below : ℕ → ℕ → Option ℕ
if_below k x = cond (ltb x k) (Some x) None

-- the length of the longest run, from 0 on, of numbers below k that satisfy t
unfoldable pub longest : ℕ → (ℕ → Bool) → ℕ
longest k t = least k (λ i. not (t i))
