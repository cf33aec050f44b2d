-- What the round rule asks of a state, and what the commits rely on while they change its lists: every well-formed state has it, and no change
-- of a list takes it away.
use Rattle.std.specs.Prelude.{◌≡◌, true, cond, not, ◌&&◌, ◌⊎◌, List, [], ◌∷◌, ℕ, zero, suc, ◌+◌, ◌-◌, ◌*◌, ◌^◌, ◌≤◌, ◌<◌, eqb, length, get_or}
use Rattle.record.specs.Below.{count}
use Rattle.record.specs.Members.{legal, leader_at, leader, most_leaders, has, id_of, id_round, id_member, id_limit, rounds, slots, voted_rounds}
use Rattle.protocol.specs.Dag.{held}
use Rattle.protocol.specs.Premises.{ValidVertices}
use Rattle.record.specs.Layout.{body_size}
use Rattle.replica.specs.Layout.{state_size, leaders_size, cell_at}
use Rattle.replica.specs.State.{member_count, committed_round, leader_count, journal_count, held_mask, heard_mask, votes_mask, vertices, ordered_id}
use Rattle.replica.specs.State.{leader_word, width, last_place}
use Rattle.commits.specs.Commit.{enter, order_leaders, is_ready, commit_once}
use Rattle.commits.specs.Taken.{gather}

-- the words of a state, and its member count n, which is not 0
pub record GroupOf (l : List ℕ) (n : ℕ) : Type 0 where
  pub size : length l ≡ state_size
  pub members : n ≡ member_count l
  pub some : 0 < n

pub record Standing (l : List ℕ) : Type 0 where
  pub size : length l ≡ state_size
  pub members : legal (member_count l) ≡ true
  pub low : 4 ≤ member_count l
  pub high : member_count l ≤ slots
  -- the vertices are well formed, and their words are those of the cells
  pub valid : ValidVertices (member_count l) (vertices l)
  pub words : (r p i : ℕ) → 1 ≤ r → r ≤ rounds → p < slots → i < body_size → get_or (vertices l r p) i 0 ≡ get_or l (cell_at r p + i) 0
  pub held_low : (r : ℕ) → 1 ≤ r → r ≤ rounds → held_mask l r < 2 ^ member_count l
  pub votes_low : (r : ℕ) → 1 ≤ r → r ≤ rounds → votes_mask l r < 2 ^ member_count l
  pub votes_heard : (r p : ℕ) → 1 ≤ r → r ≤ rounds → has (votes_mask l r) p ≡ true → has (heard_mask l r) p ≡ true

-- the mask of the members whose first messages of round q + 1 vote for leader i of round q: the state keeps it of the main leader
abbrev pub first_votes : List ℕ → ℕ → ℕ → ℕ
first_votes l q i = cond (eqb i 0) (votes_mask l (q + 1)) 0

-- leader i of round q, in a state of n members
pub record LeaderOf (l : List ℕ) (n q i : ℕ) : Type 0 where
  pub standing : Standing l
  pub members : n ≡ member_count l
  pub low : 1 ≤ q
  pub high : q ≤ voted_rounds
  pub index : i < most_leaders

-- a state's words, with room in the leader list for k more
pub record LeaderRoom (l : List ℕ) (k : ℕ) : Type 0 where
  pub size : length l ≡ state_size
  pub room : leader_count l + k ≤ leaders_size

-- there is room in the journal for every vertex that is not yet ordered
abbrev pub Room : List ℕ → Type 0
Room l = journal_count l ≤ count id_limit (ordered_id l)

-- the vertex of round r's leader is held
abbrev pub LeaderHeld : List ℕ → ℕ → ℕ → Type 0
LeaderHeld l n r = held (vertices l) r (leader n r) ≡ true

-- what the walk from round q's main leader asks, of m leaders a round, down to round c and with it
pub record WalkReady (l : List ℕ) (n m c q : ℕ) : Type 0 where
  pub standing : Standing l
  pub members : n ≡ member_count l
  pub some : 1 ≤ m
  pub most : m ≤ most_leaders
  pub low : 1 ≤ c
  pub order : c ≤ q
  pub high : q ≤ voted_rounds
  pub there : LeaderHeld l n q

-- what a run of a round's leaders in a mask asks, of m leaders a round: the mask has the main one
pub record RunBegun (n m round mask : ℕ) : Type 0 where
  pub members : 0 < n
  pub few_members : n ≤ slots
  pub low : 1 ≤ round
  pub high : round ≤ rounds
  pub some : 1 ≤ m
  pub most : m ≤ most_leaders
  pub main : has mask (leader n round) ≡ true

-- what ordering the history of the leader's vertex with the id x asks
pub record LeaderReady (l : List ℕ) (n x : ℕ) : Type 0 where
  pub standing : Standing l
  pub room : Room l
  pub members : n ≡ member_count l
  pub low : 1 ≤ id_round x
  pub high : id_round x ≤ voted_rounds
  pub there : held (vertices l) (id_round x) (id_member x) ≡ true

-- what appending the leaders taken asks, of how many of each round from c to q, where the first a of round c are already taken
pub record RunsReady (l : List ℕ) (n c a q : ℕ) (runs : List ℕ) : Type 0 where
  pub room : LeaderRoom l (length (gather n c a runs rounds))
  pub members : n ≡ member_count l
  pub some : 0 < n
  pub low : 1 ≤ c
  pub order : c ≤ q
  pub high : q ≤ voted_rounds
  pub below : (t : ℕ) → t < c → get_or runs t 0 ≡ 0
  pub above : (t : ℕ) → q < t → get_or runs t 0 ≡ 0
  pub few : (t : ℕ) → get_or runs t 0 ≤ most_leaders

-- the k entries of the leader list from entry i on
unfoldable pub entries : List ℕ → ℕ → ℕ → List ℕ
entries l i zero = []
entries l i (suc k) = leader_word l i ∷ entries l (i + 1) k

-- the histories of all leaders in the list from entry i on join the journal
abbrev pub order_from : List ℕ → ℕ → List ℕ
order_from l i = order_leaders (vertices l) l (entries l i (leader_count l - i))

-- what ordering the histories of the leaders in the list from entry i on asks
pub record LeadersReady (l : List ℕ) (n i : ℕ) : Type 0 where
  pub standing : Standing l
  pub room : Room l
  pub members : n ≡ member_count l
  pub few : leader_count l ≤ leaders_size
  pub low : (j : ℕ) → i ≤ j → j < leader_count l → 1 ≤ id_round (leader_word l j)
  pub high : (j : ℕ) → i ≤ j → j < leader_count l → id_round (leader_word l j) ≤ voted_rounds
  pub there : (j : ℕ) → i ≤ j → j < leader_count l → held (vertices l) (id_round (leader_word l j)) (id_member (leader_word l j)) ≡ true

-- what the commits ask, and keep from one to the next
pub record Going (l : List ℕ) : Type 0 where
  pub standing : Standing l
  pub room : Room l
  pub place : last_place l ≤ width l
  pub few : leader_count l ≤ width l * committed_round l + last_place l
  pub high : committed_round l ≤ voted_rounds

-- leader i of round q is the main leader of a round above the committed one, or the next leader of the committed round
abbrev pub Step : List ℕ → ℕ → ℕ → Type 0
Step l q i = ((i ≡ 0) × (committed_round l < q)) ⊎ ((q ≡ committed_round l) × (i ≡ last_place l) × (0 < q))

-- leader i of round q may be committed
pub record Ready (l : List ℕ) (q i : ℕ) : Type 0 where
  pub step : Step l q i
  pub high : q ≤ voted_rounds
  pub index : i < width l
  pub there : held (vertices l) q (leader_at (member_count l) q i) ≡ true

-- c is the committed round, and a of its leaders are in the list
pub record AtPlace (l : List ℕ) (n c a : ℕ) : Type 0 where
  pub going : Going l
  pub members : n ≡ member_count l
  pub round : c ≡ committed_round l
  pub place : a ≡ last_place l

-- what committing the next leader of the committed round asks: leader i of round q
pub record Further (l : List ℕ) (n q i : ℕ) : Type 0 where
  pub at : AtPlace l n q i
  pub some : 0 < q
  pub index : i < width l
  pub there : held (vertices l) q (leader_at n q i) ≡ true

-- what committing round q's main leader asks, where a leaders of the committed round c are in the list
pub record Next (l : List ℕ) (n c a q : ℕ) : Type 0 where
  pub at : AtPlace l n c a
  pub low : c < q
  pub high : q ≤ voted_rounds
  pub there : LeaderHeld l n q

-- one commit more, if some leader is committable
abbrev pub commit_step : List ℕ → List ℕ
commit_step l = cond (is_ready l) (commit_once l) l

-- the vertex with the id y joins the journal if the mask has its member and it is not yet ordered
unfoldable pub order_id : List ℕ → ℕ → ℕ → List ℕ
order_id l mask y = cond (has mask (id_member y) && not (ordered_id l y)) (enter l y) l

-- so for the vertices of round r and the members below k, by rising member
unfoldable pub order_round : List ℕ → ℕ → ℕ → ℕ → List ℕ
order_round l mask r zero = l
order_round l mask r (suc k) = order_id (order_round l mask r k) mask (id_of r k)
