-- The laws of masks, quorums and leaders, as claims. `proofs/` has a term of each.
use Rattle.std.specs.Prelude.{◌≡◌, Bool, true, false, not, ℕ, ◌+◌, ◌*◌, ◌^◌, ◌≤◌, ◌<◌}
use Rattle.std.specs.Int.Count.{ones}
use Rattle.record.specs.Below.{count}
use Rattle.record.specs.Members.{legal, faulty, quorum, leader_at, most_leaders, has, with, without}
use Rattle.record.specs.declared.members.Members.{Members}

-- with a member added, that member is in, and every other one is in as before
abbrev pub WithLaw : Type 0
WithLaw = (m : Members) (p : ℕ) → (has (with m p).bits p ≡ true) × ((q : ℕ) → (p ≡ q → ⊥) → has (with m p).bits q ≡ has m.bits q)

-- with a member taken out, that member is out, and every other one is in as before
abbrev pub WithoutLaw : Type 0
WithoutLaw = (m : Members) (p : ℕ)
    → (has (without m p).bits p ≡ false) × ((q : ℕ) → (p ≡ q → ⊥) → has (without m p).bits q ≡ has m.bits q)

-- the count of a mask's bits is the number of members that it has
abbrev pub CountLaw : Type 0
CountLaw = (n m : ℕ) → m < 2 ^ n → ones m ≡ count n (has m)

-- two quorums of n = 3f + 1 members meet in a member of any set that lacks at most f
abbrev pub MeetLaw : Type 0
MeetLaw = (n : ℕ) → n ≡ 3 * faulty n + 1 → (s t h : ℕ → Bool) → quorum n ≤ count n s → quorum n ≤ count n t → count n (λ p. not (h p)) ≤ faulty n
    → (p : ℕ) × (p < n) × (s p ≡ true) × (t p ≡ true) × (h p ≡ true)

-- the leaders of a round are different members
abbrev pub ApartLaw : Type 0
ApartLaw = (n : ℕ) → legal n ≡ true → (r i j : ℕ) → i < most_leaders → j < most_leaders → leader_at n r i ≡ leader_at n r j → i ≡ j
