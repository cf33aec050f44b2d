-- What a member holds: vertices and first messages. Votes, the leaders that are committed directly, and the last round.
use Rattle.std.specs.Prelude.{◌≡◌, Bool, true, false, cond, ◌&&◌, ◌||◌, List, [], ◌∷◌, ℕ, zero, suc, eqb, leb}
use Rattle.record.specs.Below.{count, longest}
use Rattle.record.specs.Members.{voted_rounds, quorum, has, leader_at}
use Rattle.record.specs.Layout.{round_of, source_of, body_of, strong_of}

-- the body of the record of each round and member, and [] where there is none
abbrev pub Records : Type 0
Records = ℕ → ℕ → List ℕ

-- the bodies of a list of records: the first one of a round and source stands for it
unfoldable pub records_of : List (List ℕ) → Records
records_of [] r p = []
records_of (x ∷ l) r p = cond (eqb (round_of x) r && eqb (source_of x) p) (body_of x) (records_of l r p)

pub record Dag : Type 0 where
  pub vertex : Records
  pub first : Records

-- there is a record
abbrev pub present : List ℕ → Bool
present [] = false
present (w ∷ body) = true

-- the vertex of round r and member p is there
abbrev pub held : Records → ℕ → ℕ → Bool
held v r p = present (v r p)

-- all that the first DAG has, the second has
pub record Within (d e : Dag) : Type 0 where
  pub vertices : (r p : ℕ) → held d.vertex r p ≡ true → d.vertex r p ≡ e.vertex r p
  pub firsts : (r p : ℕ) → present (d.first r p) ≡ true → d.first r p ≡ e.first r p

-- ---- of n members

module _ (n : ℕ) where
  -- a record of round r + 1 votes for leader i of round r
  abbrev pub votes : ℕ → ℕ → List ℕ → Bool
  votes r i body = has (strong_of body) (leader_at n r i)

  -- member p is a voter for leader i of round r: by its vertex or by its first message
  unfoldable pub voter : Dag → ℕ → ℕ → ℕ → Bool
  voter d r i p = votes r i (d.vertex (suc r) p) || votes r i (d.first (suc r) p)

  -- at least 2f + 1 members satisfy s
  abbrev pub enough : (ℕ → Bool) → Bool
  enough s = leb (quorum n) (count n s)

  -- leader i of round r has its vertex there, and a quorum of voters
  unfoldable pub backed : Dag → ℕ → ℕ → Bool
  backed d r i = held d.vertex r (leader_at n r i) && enough (voter d r i)

  -- the main leader of round r is committed directly
  abbrev pub committed : Dag → ℕ → Bool
  committed d r = backed d r 0

  -- the highest round among 1 .. k whose main leader is committed directly, or 0
  unfoldable pub last_up_to : Dag → ℕ → ℕ
  last_up_to d zero = 0
  last_up_to d (suc k) = cond (committed d (suc k)) (suc k) (last_up_to d k)

  -- the last round: by main leaders alone
  abbrev pub last : Dag → ℕ
  last d = last_up_to d voted_rounds

-- ---- and m leaders a round

-- States have one leader a round so far, so m is 1 and every index 0 in what is said of them. The rules below and the claims about them hold for every m
-- from 1 on.
module _ (n m : ℕ) where
  -- How many leaders of round r are committed directly: the longest run, from the main one on, of leaders that are backed. None is of round 0.
  unfoldable pub direct : Dag → ℕ → ℕ
  direct d zero = 0
  direct d (suc r) = longest m (backed n d (suc r))
