-- The same sets as masks, for programs: the voters, what strong paths reach one round further down, and histories as 32 masks filled by falling round.
use Rattle.std.specs.Prelude.{◌≡◌, true, cond, ◌&&◌, List, ℕ, zero, suc, ◌-◌, ◌^◌, ◌≤◌, ◌<◌, get_or, set, take, replicate}
use Rattle.std.specs.Int.Bits.{bit_or}
use Rattle.record.specs.Below.{any}
use Rattle.record.specs.Members.{legal, has, add, meets, id_of, id_round, id_member, rounds, slots}
use Rattle.record.specs.Layout.{strong_of, weak_count_of, weak_of, weak_count_place}
use Rattle.protocol.specs.Dag.{Records, Dag, held, voter, enough}
use Rattle.protocol.specs.Paths.{path, history}
use Rattle.protocol.specs.Premises.{ValidVertices}

-- the union of the strong masks of round r's vertices of the members below k in the mask m
unfoldable pub parents : Records → ℕ → ℕ → ℕ → ℕ
parents v r m zero = 0
parents v r m (suc k) = cond (has m k) (bit_or (parents v r m k) (strong_of (v r k))) (parents v r m k)

-- the masks h, one for each round from 1, with the bits m added in round t
unfoldable pub join : List ℕ → ℕ → ℕ → List ℕ
join h t m = set h (t - 1) (bit_or (get_or h (t - 1) 0) m)

-- the first k weak parents of a body added
unfoldable pub join_weak : List ℕ → List ℕ → ℕ → List ℕ
join_weak h body zero = h
join_weak h body (suc k) = join (join_weak h body k) (id_round (weak_of body k)) (2 ^ id_member (weak_of body k))

-- all weak parents of the vertex of round r and member p added
abbrev pub join_weak_parents : Records → List ℕ → ℕ → ℕ → List ℕ
join_weak_parents v h r p = join_weak h (v r p) (weak_count_of (v r p))

-- and its strong parents too
unfoldable pub join_parents : Records → List ℕ → ℕ → ℕ → List ℕ
join_parents v h r p = join_weak_parents v (join h (r - 1) (strong_of (v r p))) r p

-- the parents of round r's vertices of the members below k in the mask m added
unfoldable pub join_round : Records → List ℕ → ℕ → ℕ → ℕ → List ℕ
join_round v h r m zero = h
join_round v h r m (suc k) = cond (has m k) (join_parents v (join_round v h r m k) r k) (join_round v h r m k)

-- so for those that the masks h have
abbrev pub join_round_parents : Records → List ℕ → ℕ → ℕ → List ℕ
join_round_parents v h r k = join_round v h r (get_or h (r - 1) 0) k

module _ (n : ℕ) where
  -- the members below k that are voters for leader i of round r
  unfoldable pub voters : Dag → ℕ → ℕ → ℕ → ℕ
  voters d r i zero = 0
  voters d r i (suc k) = cond (voter n d r i k) (add (voters d r i k) k) (voters d r i k)

  -- for the rounds k + 1, k, .. 2 the parents of the vertices that the masks have are joined
  unfoldable pub fill : Records → List ℕ → ℕ → List ℕ
  fill v h zero = h
  fill v h (suc k) = fill v (join_round_parents v h (suc (suc k)) n) k

  -- the histories of round r's vertices of the members in the mask m, together, as masks
  unfoldable pub reach_masks : Records → ℕ → ℕ → List ℕ
  reach_masks v r m = fill v (join (replicate rounds 0) r m) (r - 1)

  -- the history of the vertex of round r and member p, as masks
  abbrev pub history_masks : Records → ℕ → ℕ → List ℕ
  history_masks v r p = reach_masks v r (2 ^ p)

  -- the mask of the voters meets the quorum exactly if enough members are voters
  abbrev pub VotersClaim : Type 0
  VotersClaim = (d : Dag) (r i : ℕ) → meets n (voters d r i n) ≡ enough n (voter n d r i)

  -- the members that paths from the vertex of round r and member p reach in round t, from those that they reach in round t + 1
  abbrev pub ParentsClaim : Type 0
  ParentsClaim = (v : Records) → ValidVertices n v → (r p t m : ℕ) → p < n → 1 ≤ t → t < r
      → ((q : ℕ) → q < n → has m q ≡ path n v r p (suc t) q) → (q : ℕ) → q < n → has (parents v (suc t) m n) q ≡ path n v r p t q

  -- the masks name exactly what is in some of the histories
  abbrev pub ReachClaim : Type 0
  ReachClaim = (v : Records) → legal n ≡ true → ValidVertices n v → (r m : ℕ) → 1 ≤ r → r ≤ rounds → m < 2 ^ n
      → (t q : ℕ) → 1 ≤ t → t ≤ rounds → q < slots
      → has (get_or (reach_masks v r m) (t - 1) 0) q ≡ any n (λ p. has m p && history n v r p (id_of t q))

  -- so those of one vertex name exactly its history
  abbrev pub HistoryClaim : Type 0
  HistoryClaim = (v : Records) → legal n ≡ true → ValidVertices n v → (r p : ℕ) → held v r p ≡ true
      → (t q : ℕ) → 1 ≤ t → t ≤ rounds → q < slots → has (get_or (history_masks v r p) (t - 1) 0) q ≡ history n v r p (id_of t q)

  -- and with strong edges alone, which are those of bodies cut off before their weak ids, exactly what paths reach
  abbrev pub StrongHistoryClaim : Type 0
  StrongHistoryClaim = (v : Records) → legal n ≡ true → ValidVertices n v → (r p : ℕ) → held v r p ≡ true
      → (t q : ℕ) → 1 ≤ t → t ≤ rounds → q < slots → has (get_or (history_masks (λ r p. take weak_count_place (v r p)) r p) (t - 1) 0) q ≡ path n v r p t q
