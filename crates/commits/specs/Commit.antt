-- What follows an admitted call: the round rule and the commits.
use Rattle.std.specs.Prelude.{Bool, cond, not, ◌&&◌, ◌||◌, List, [], ◌∷◌, ℕ, zero, suc, ◌+◌, ◌*◌, leb, ltb, set}
use Rattle.record.specs.Below.{select, least}
use Rattle.record.specs.Members.{rounds, leader, most_leaders, has, meets, id_round, id_member, id_limit, voted_rounds}
use Rattle.protocol.specs.Dag.{Records, backed, committed}
use Rattle.protocol.specs.Paths.{history}
use Rattle.protocol.specs.Chain.{chain}
use Rattle.replica.specs.Layout.{current_round_at, committed_round_at, leader_count_at, journal_count_at, ordered_at, leaders_at, journal_at}
use Rattle.replica.specs.State.{member_count, current_round, committed_round, leader_count, journal_count, width, last_place, add_member}
use Rattle.replica.specs.State.{held_mask, timeouts_mask, vertices, dag, ordered_id}

-- ---- the round rule

-- round r holds a quorum of vertices, and its leader's vertex or a quorum of timeouts
unfoldable pub passable : List ℕ → ℕ → Bool
passable l r = meets (member_count l) (held_mask l r) && (has (held_mask l r) (leader (member_count l) r) || meets (member_count l) (timeouts_mask l r))

-- the highest passable round among 1 .. k, or 0
unfoldable pub highest_passable : List ℕ → ℕ → ℕ
highest_passable l zero = 0
highest_passable l (suc k) = cond (passable l (suc k)) (suc k) (highest_passable l k)

-- the current round becomes the larger of itself and 1 + q
unfoldable pub raise_round : List ℕ → List ℕ
raise_round l = cond (ltb (current_round l) (1 + highest_passable l rounds)) (set l current_round_at (1 + highest_passable l rounds)) l

-- ---- one commit

-- the leader's vertex with the id x joins the leader list
unfoldable pub append_leader : List ℕ → ℕ → List ℕ
append_leader l x = set (set l (leaders_at + leader_count l) x) leader_count_at (leader_count l + 1)

unfoldable pub append_leaders : List ℕ → List ℕ → List ℕ
append_leaders l [] = l
append_leaders l (x ∷ xs) = append_leaders (append_leader l x) xs

-- the vertex with the id y is ordered, and joins the journal
unfoldable pub enter : List ℕ → ℕ → List ℕ
enter l y =
    set (set (add_member l (ordered_at (id_round y)) (id_member y)) (journal_at + journal_count l) y) journal_count_at (journal_count l + 1)

unfoldable pub enter_all : List ℕ → List ℕ → List ℕ
enter_all l [] = l
enter_all l (y ∷ ys) = enter_all (enter l y) ys

-- all of the history of the leader's vertex with the id x, in the vertices v, that is not yet ordered joins the journal by rising id
unfoldable pub order_leader : Records → List ℕ → ℕ → List ℕ
order_leader v l x = enter_all l (select id_limit (λ y. not (ordered_id l y) && history (member_count l) v (id_round x) (id_member x) y))

unfoldable pub order_leaders : Records → List ℕ → List ℕ → List ℕ
order_leaders v l [] = l
order_leaders v l (x ∷ xs) = order_leaders v (order_leader v l x) xs

-- The ids of the leaders that committing leader i of round q takes, from the place that the leader list has come to. Of the main leader of a later round it
-- is the walk down to the committed round; of the next leader of the committed round it is that one alone.
abbrev pub taken : List ℕ → ℕ → ℕ → List ℕ
taken l q i = chain (member_count l) (width l) (vertices l) (committed_round l) (last_place l) q (i + 1)

-- leader i of round q is committed: the leaders taken join the leader list, q is the committed round, and their histories join the journal
unfoldable pub commit : List ℕ → ℕ → ℕ → List ℕ
commit l q i = order_leaders (vertices l) (set (append_leaders l (taken l q i)) committed_round_at q) (taken l q i)

-- ---- all commits

-- the main leader of round q is committable (01: ready)
unfoldable pub committable : List ℕ → ℕ → Bool
committable l q = ltb (committed_round l) q && (leb q voted_rounds && committed (member_count l) (dag l) q)

-- the lowest round whose main leader is committable, 32 if there is none
abbrev pub lowest : List ℕ → ℕ
lowest l = least rounds (committable l)

-- The committed round grows: of its leaders the next one, behind those in the list, is backed. With one leader a round there is no next one.
unfoldable pub grows : List ℕ → Bool
grows l = ltb 0 (committed_round l) && (ltb (last_place l) (width l) && backed (member_count l) (dag l) (committed_round l) (last_place l))

-- some leader is committable
unfoldable pub is_ready : List ℕ → Bool
is_ready l = grows l || ltb (lowest l) rounds

-- the first of them is committed: lowest round first, then lowest index, so the committed round grows first
unfoldable pub commit_once : List ℕ → List ℕ
commit_once l = cond (grows l) (commit l (committed_round l) (last_place l)) (commit l (lowest l) 0)

-- and again, at most k times
unfoldable pub commit_up_to : List ℕ → ℕ → List ℕ
commit_up_to l zero = l
commit_up_to l (suc k) = cond (is_ready l) (commit_up_to (commit_once l) k) l

-- more leaders than are ever in the list
abbrev pub most_commits : ℕ
most_commits = most_leaders * rounds

-- and again until none is committable: each commit adds to the leader list
abbrev pub commit_all : List ℕ → List ℕ
commit_all l = commit_up_to l most_commits
