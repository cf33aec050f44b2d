-- The group: its rounds, its n members, quorums, leaders, masks of members, and the ids of vertices.
use Rattle.std.specs.Prelude.{Bool, ◌&&◌, ℕ, ◌+◌, ◌-◌, ◌*◌, ◌/◌, ◌%◌, ◌^◌, eqb, leb, ltb}
use Rattle.std.specs.Int.Bits.{bit_or, bit_and, bit_xor}
use Rattle.std.specs.Int.Count.{ones}
use Rattle.record.specs.declared.members.Members.{Members}

-- the rounds of a group are 1 to 32
abbrev pub rounds : ℕ
rounds = 32

-- those that the next one can vote for, and that can be committed, are 1 to 31
abbrev pub voted_rounds : ℕ
voted_rounds = 31

unfoldable pub is_round : ℕ → Bool
is_round r = leb 1 r && leb r rounds

-- the ids of a round: as many as the largest group has members
abbrev pub slots : ℕ
slots = 16

-- n is 4, 7, 10, 13 or 16
unfoldable pub legal : ℕ → Bool
legal n = leb 4 n && (leb n slots && eqb (n % 3) 1)

-- f, the most members of n that may be faulty
abbrev pub faulty : ℕ → ℕ
faulty n = (n - 1) / 3

-- 2f + 1
abbrev pub quorum : ℕ → ℕ
quorum n = 2 * faulty n + 1

-- leader i of round r, from 0 on: leader 0 is the main one. A state has the main one alone so far (`width` in `replica/specs/State.antt` is 1), and it is 01's
-- leader; the rules are written over i all the same.
unfoldable pub leader_at : ℕ → ℕ → ℕ → ℕ
leader_at n r i = (r - 1 + i) % n

-- the main leader of round r
abbrev pub leader : ℕ → ℕ → ℕ
leader n r = leader_at n r 0

-- the most leaders that a round may have: fewer than members, so that no member is two of them
abbrev pub most_leaders : ℕ
most_leaders = 3

-- member p is in the mask m: bit p of m is set
unfoldable pub has : ℕ → ℕ → Bool
has m p = eqb (m / 2 ^ p % 2) 1

-- the mask m with member p added
abbrev pub add : ℕ → ℕ → ℕ
add m p = bit_or m (2 ^ p)

-- the mask m without member p
abbrev pub remove : ℕ → ℕ → ℕ
remove m p = bit_xor m (bit_and m (2 ^ p))

-- the mask m has no bit at n or above
unfoldable pub within : ℕ → ℕ → Bool
within n m = ltb m (2 ^ n)

-- the mask m has at least 2f + 1 bits
unfoldable pub meets : ℕ → ℕ → Bool
meets n m = leb (quorum n) (ones m)

-- the members m with member p added
abbrev pub with : Members → ℕ → Members
with m p = record { bits = add m.bits p }

-- the members m without member p
abbrev pub without : Members → ℕ → Members
without m p = record { bits = remove m.bits p }

-- the id (01: ref) of the vertex of round r and member p, and its round and member
abbrev pub id_of : ℕ → ℕ → ℕ
id_of r p = slots * r + p

abbrev pub id_round : ℕ → ℕ
id_round x = x / slots

abbrev pub id_member : ℕ → ℕ
id_member x = x % slots

-- every id of a round of the group is below it
abbrev pub id_limit : ℕ
id_limit = slots * (rounds + 1)
