-- The leaders that a commit takes, as how many of each round: 32 numbers, from round 0 on.
use Rattle.std.specs.Prelude.{◌≡◌, cond, ◌||◌, List, [], ◌++◌, ℕ, zero, suc, ◌+◌, ◌≤◌, ◌<◌, eqb, leb, get_or}
use Rattle.record.specs.Members.{rounds}
use Rattle.protocol.specs.Dag.{Records}
use Rattle.protocol.specs.Chain.{seats, chain}

-- how many leaders of round r are already taken, where the first a of round c are
abbrev pub taken_of : ℕ → ℕ → ℕ → ℕ
taken_of r c a = cond (eqb r c) a 0

-- The lowest round that a commit can take a leader of, of m a round, where the first a leaders of round c are already taken: round c, but the one above it
-- where c is 0 or all of its leaders are taken.
abbrev pub lowest_taken : ℕ → ℕ → ℕ → ℕ
lowest_taken c a m = cond (eqb c 0 || leb m a) (c + 1) c

-- the ids of the leaders taken of the rounds below k, without those already taken
unfoldable pub gather : ℕ → ℕ → ℕ → List ℕ → ℕ → List ℕ
gather n c a runs zero = []
gather n c a runs (suc k) = gather n c a runs k ++ seats n k (taken_of k c a) (get_or runs k 0)

-- The numbers say what committing round q's main leader takes, of m leaders a round, from round c on: however many leaders of round c are already taken.
pub record TakenRuns (n m : ℕ) (v : Records) (c q : ℕ) (runs : List ℕ) : Type 0 where
  pub is : (a : ℕ) → gather n c a runs rounds ≡ chain n m v c a q 1
  pub below : (t : ℕ) → t < c → get_or runs t 0 ≡ 0
  pub above : (t : ℕ) → q < t → get_or runs t 0 ≡ 0
  pub few : (t : ℕ) → get_or runs t 0 ≤ m
