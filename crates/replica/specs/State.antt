-- The words of a state as what they mean: counts, masks, lists, and the DAG.
use Rattle.std.specs.Prelude.{Bool, cond, ◌&&◌, List, [], ◌∷◌, ℕ, ◌+◌, ◌-◌, ◌^◌, eqb, ltb, get_or, set, take, drop}
use Rattle.std.specs.Int.Bits.{bit_or}
use Rattle.record.specs.Below.{least}
use Rattle.record.specs.Members.{leader_at, leader, has, add, id_round, id_member, is_round, slots}
use Rattle.record.specs.Layout.{body_size}
use Rattle.protocol.specs.Dag.{Records, Dag}
use Rattle.replica.specs.Layout.{member_count_at, current_round_at, committed_round_at, leader_count_at, journal_count_at, held_kind, heard_kind}
use Rattle.replica.specs.Layout.{own_at, made_at, signed_at}
use Rattle.replica.specs.Layout.{votes_kind, timeouts_kind, no_votes_kind, ordered_kind, mask_at, leaders_at, journal_at, cell_at}

-- words 0 to 4
abbrev pub member_count : List ℕ → ℕ
member_count l = get_or l member_count_at 0

abbrev pub current_round : List ℕ → ℕ
current_round l = get_or l current_round_at 0

abbrev pub committed_round : List ℕ → ℕ
committed_round l = get_or l committed_round_at 0

abbrev pub leader_count : List ℕ → ℕ
leader_count l = get_or l leader_count_at 0

abbrev pub journal_count : List ℕ → ℕ
journal_count l = get_or l journal_count_at 0

-- words 5 to 7
abbrev pub own_word : List ℕ → ℕ
own_word l = get_or l own_at 0

abbrev pub made_rounds : List ℕ → ℕ
made_rounds l = get_or l made_at 0

abbrev pub signed_rounds : List ℕ → ℕ
signed_rounds l = get_or l signed_at 0

-- how many leaders a round has: one so far. What is proved of all states asks no more of it than `proofs/Width.antt` says.
unfoldable pub width : List ℕ → ℕ
width l = 1

-- the masks of round r
abbrev pub mask_of : List ℕ → ℕ → ℕ → ℕ
mask_of l kind r = get_or l (mask_at kind r) 0

abbrev pub held_mask : List ℕ → ℕ → ℕ
held_mask l = mask_of l held_kind

abbrev pub heard_mask : List ℕ → ℕ → ℕ
heard_mask l = mask_of l heard_kind

abbrev pub votes_mask : List ℕ → ℕ → ℕ
votes_mask l = mask_of l votes_kind

abbrev pub timeouts_mask : List ℕ → ℕ → ℕ
timeouts_mask l = mask_of l timeouts_kind

abbrev pub no_votes_mask : List ℕ → ℕ → ℕ
no_votes_mask l = mask_of l no_votes_kind

abbrev pub ordered_mask : List ℕ → ℕ → ℕ
ordered_mask l = mask_of l ordered_kind

-- the words with member p added to the mask in the word at
unfoldable pub add_member : List ℕ → ℕ → ℕ → List ℕ
add_member l at p = set l at (add (get_or l at 0) p)

-- and with the members of the mask m
unfoldable pub add_members : List ℕ → ℕ → ℕ → List ℕ
add_members l at m = set l at (bit_or (get_or l at 0) m)

-- the lists' words, and the lists
abbrev pub leader_word : List ℕ → ℕ → ℕ
leader_word l i = get_or l (leaders_at + i) 0

abbrev pub journal_word : List ℕ → ℕ → ℕ
journal_word l i = get_or l (journal_at + i) 0

abbrev pub leader_list : List ℕ → List ℕ
leader_list l = take (leader_count l) (drop leaders_at l)

abbrev pub journal_list : List ℕ → List ℕ
journal_list l = take (journal_count l) (drop journal_at l)

-- which of the leaders of its round the vertex with the id x is of: its index, and the width if it is of none
unfoldable pub leader_index : List ℕ → ℕ → ℕ
leader_index l x = cond (is_round (id_round x)) (least (width l) (λ i. eqb (leader_at (member_count l) (id_round x) i) (id_member x))) (width l)

-- the last entry of the leader list, if it has one
abbrev pub last_leader : List ℕ → ℕ
last_leader l = leader_word l (leader_count l - 1)

-- how many leaders of the last round of the leader list are in it, by its last entry
unfoldable pub last_place : List ℕ → ℕ
last_place l = cond (eqb (leader_count l) 0) 0 (leader_index l (last_leader l) + 1)

-- the cell of round r and member p
abbrev pub cell : List ℕ → ℕ → ℕ → List ℕ
cell l r p = take body_size (drop (cell_at r p) l)

-- the vertices: the cells that are held. A damaged mask may have bits that no cell is for.
unfoldable pub vertices : List ℕ → Records
vertices l r p = cond (is_round r && has (held_mask l r) p) (cond (ltb p slots) (cell l r p) []) []

-- The first messages. Of one that was heard the state keeps only whether it votes, so it stands here with a strong mask that is
-- the previous leader's bit, or none.
unfoldable pub firsts : List ℕ → Records
firsts l r p =
    cond (is_round r && has (heard_mask l r) p) (cond (has (votes_mask l r) p) (2 ^ leader (member_count l) (r - 1)) 0 ∷ []) []

abbrev pub dag : List ℕ → Dag
dag l = record { vertex = vertices l; first = firsts l }

-- the vertex with the id x is in its round's mask of that kind: it is held, or ordered
abbrev pub marked_id : List ℕ → ℕ → ℕ → Bool
marked_id l kind x = is_round (id_round x) && has (mask_of l kind (id_round x)) (id_member x)

abbrev pub held_id : List ℕ → ℕ → Bool
held_id l = marked_id l held_kind

abbrev pub ordered_id : List ℕ → ℕ → Bool
ordered_id l = marked_id l ordered_kind
