-- What holds of the commits, as claims: they end when none is committable, and either sighting of a vote is enough. `proofs/` has a term of each.
use Rattle.std.specs.Prelude.{◌≡◌, true, false, ◌⊎◌, List, ℕ, suc, ◌≤◌, ◌<◌, length}
use Rattle.record.specs.Members.{leader, has, meets, voted_rounds}
use Rattle.protocol.specs.Dag.{votes, enough}
use Rattle.replica.specs.Layout.{state_size}
use Rattle.replica.specs.State.{member_count, committed_round, held_mask, votes_mask, vertices}
use Rattle.replica.specs.WellFormed.{well_formed}
use Rattle.commits.specs.Commit.{committable, grows, commit_all}

-- ---- again until none is committable

-- no round's main leader is committable, and the committed round does not grow
pub record NoneCommittable (l : List ℕ) : Type 0 where
  pub main : (q : ℕ) → committable l q ≡ false
  pub next : grows l ≡ false

-- so it is after the commits: the bound on their number never ends them
abbrev pub CommitsEnd : Type 0
CommitsEnd = (l : List ℕ) → length l ≡ state_size → well_formed l ≡ true → NoneCommittable (commit_all l)

-- ---- either sighting

-- Round q is above the committed round, at most 31, its leader's vertex is held, and of the next round the votes mask alone, or the held vertices that
-- have that leader in their strong mask alone, are a quorum.
pub record ReadyAlone (l : List ℕ) (q : ℕ) : Type 0 where
  pub above : committed_round l < q
  pub high : q ≤ voted_rounds
  pub led : has (held_mask l q) (leader (member_count l) q) ≡ true
  pub alone : (meets (member_count l) (votes_mask l (suc q)) ≡ true)
      ⊎ (enough (member_count l) (λ p. votes (member_count l) q 0 (vertices l (suc q) p)) ≡ true)

-- such a round is committable
abbrev pub EitherAlone : Type 0
EitherAlone = (l : List ℕ) → length l ≡ state_size → well_formed l ≡ true → (q : ℕ) → ReadyAlone l q → committable l q ≡ true
