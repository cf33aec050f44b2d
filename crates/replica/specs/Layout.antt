-- Where each word of the replica state (01: sheet) stands, and how many there are. Every size and place of them is written here.
use Rattle.std.specs.Prelude.{ℕ, ◌+◌, ◌-◌, ◌*◌}
use Rattle.record.specs.Members.{rounds, slots}
use Rattle.record.specs.Layout.{body_size}

-- the head: words 0 to 7
abbrev pub member_count_at : ℕ
member_count_at = 0

abbrev pub current_round_at : ℕ
current_round_at = 1

abbrev pub committed_round_at : ℕ
committed_round_at = 2

abbrev pub leader_count_at : ℕ
leader_count_at = 3

abbrev pub journal_count_at : ℕ
journal_count_at = 4

-- the own member plus 1, or a watcher's word
abbrev pub own_at : ℕ
own_at = 5

abbrev pub watcher : ℕ
watcher = 0

-- the rounds for which a record was made, and those for which a no-vote was signed: bit r - 1 for round r
abbrev pub made_at : ℕ
made_at = 6

abbrev pub signed_at : ℕ
signed_at = 7

abbrev pub head_size : ℕ
head_size = 8

-- six masks for each round, one of each kind
abbrev pub held_kind : ℕ
held_kind = 0

abbrev pub heard_kind : ℕ
heard_kind = 1

abbrev pub votes_kind : ℕ
votes_kind = 2

abbrev pub timeouts_kind : ℕ
timeouts_kind = 3

abbrev pub no_votes_kind : ℕ
no_votes_kind = 4

abbrev pub ordered_kind : ℕ
ordered_kind = 5

abbrev pub kinds : ℕ
kinds = 6

abbrev pub masks_at : ℕ → ℕ
masks_at r = head_size + kinds * (r - 1)

-- the mask of that kind of round r
abbrev pub mask_at : ℕ → ℕ → ℕ
mask_at kind r = masks_at r + kind

abbrev pub held_at : ℕ → ℕ
held_at = mask_at held_kind

abbrev pub heard_at : ℕ → ℕ
heard_at = mask_at heard_kind

abbrev pub votes_at : ℕ → ℕ
votes_at = mask_at votes_kind

abbrev pub timeouts_at : ℕ → ℕ
timeouts_at = mask_at timeouts_kind

abbrev pub no_votes_at : ℕ → ℕ
no_votes_at = mask_at no_votes_kind

abbrev pub ordered_at : ℕ → ℕ
ordered_at = mask_at ordered_kind

-- the two lists
abbrev pub leaders_at : ℕ
leaders_at = 200

abbrev pub leaders_size : ℕ
leaders_size = 32

abbrev pub journal_at : ℕ
journal_at = 232

abbrev pub journal_size : ℕ
journal_size = 512

-- a cell for each round and member, and the words of a round's cells
abbrev pub cells_at : ℕ
cells_at = 744

abbrev pub cell_at : ℕ → ℕ → ℕ
cell_at r p = cells_at + body_size * (slots * (r - 1) + p)

abbrev pub round_size : ℕ
round_size = body_size * slots

-- where the masks, the lists and the cells end
abbrev pub masks_end : ℕ
masks_end = head_size + kinds * rounds

abbrev pub leaders_end : ℕ
leaders_end = leaders_at + leaders_size

abbrev pub journal_end : ℕ
journal_end = journal_at + journal_size

abbrev pub cells_end : ℕ
cells_end = cells_at + round_size * rounds

-- of the whole state
abbrev pub state_size : ℕ
state_size = cells_end
