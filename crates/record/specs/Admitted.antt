-- What crates above know of the questions 4 to 11. They never open them, but for the proofs of `agreement` and `conduct` that compute concrete records.
use Rattle.std.specs.Prelude.{◌≡◌, Bool, true, false, ◌&&◌, List, ℕ, ◌+◌, ◌-◌, ◌^◌, ◌≤◌, ◌<◌, eqb, leb, length, get_or, Err}
use Rattle.std.specs.Int.Count.{ones}
use Rattle.record.specs.Below.{count}
use Rattle.record.specs.Members.{rounds, is_round, faulty, quorum, leader_at, leader, has, meets, id_round, id_member}
use Rattle.record.specs.Refusals.{refusal_number, no_refusal, number_of, numbered}
use Rattle.record.specs.Layout.{body_size, strong_of, timeouts_of, no_votes_of, no_votes_for, weak_count_of, weak_of, weak_slots, Digest, record_words}
use Rattle.record.specs.Questions.{signer_questions, record_questions, signer_refusal, body_refusal, record_refusal}
use Rattle.record.specs.Questions.{strong_ok, lacks_leader, quorum_if}
use Rattle.record.specs.Handed.{QuorumOf, handed_if}
use Rattle.record.specs.declared.refusal.Refusal.TheVariants.{Round, Weak}

-- a round, and a member of the group
pub record Placed (n round member : ℕ) : Type 0 where
  pub round_low : 1 ≤ round
  pub round_high : round ≤ rounds
  pub member_low : member < n

-- what crates above use of a record that no question refuses
pub record Admitted (n round source : ℕ) (body : List ℕ) : Type 0 where
  pub size : length body ≡ body_size
  pub round_low : 1 ≤ round
  pub round_high : round ≤ rounds
  pub source_low : source < n
  pub strong_low : strong_of body < 2 ^ n
  pub timeouts_low : timeouts_of body < 2 ^ n
  pub no_votes_low : no_votes_of body < 2 ^ n
  -- the strong mask is empty in round 1 and a quorum later
  pub strong_first : round ≡ 1 → strong_of body ≡ 0
  pub strong_later : 2 ≤ round → quorum n ≤ count n (has (strong_of body))
  -- without the previous main leader, a quorum of timeouts
  pub timeout_quorum : 2 ≤ round → has (strong_of body) (leader n (round - 1)) ≡ false → quorum n ≤ count n (has (timeouts_of body))
  -- weak ids are of members below n, rise strictly, and lie at least two rounds below
  pub weak_few : weak_count_of body ≤ faulty n
  pub weak_member : (i : ℕ) → i < weak_slots → i < weak_count_of body → id_member (weak_of body i) < n
  pub weak_low : (i : ℕ) → i < weak_slots → i < weak_count_of body → 1 ≤ id_round (weak_of body i)
  pub weak_high : (i : ℕ) → i < weak_slots → i < weak_count_of body → id_round (weak_of body i) + 2 ≤ round
  pub weak_rising : (i : ℕ) → i + 1 < weak_slots → i + 1 < weak_count_of body → weak_of body i < weak_of body (i + 1)

-- with m leaders a round: a main leader's record has, for each leader of the previous round that it lacks, a quorum of no-votes against it
pub record Certified (n m round source : ℕ) (body : List ℕ) : Type 0 where
  pub no_vote_quorum : (i : ℕ) → i < m → 2 ≤ round → has (strong_of body) (leader_at n (round - 1) i) ≡ false → source ≡ leader n round
      → quorum n ≤ count n (has (no_votes_for body i))

-- what a record is composed of so that it is admitted: what 5 to 11 ask of each value
pub record Composed (n round source strong timeouts no_votes : ℕ) (weak : List ℕ) : Type 0 where
  pub placed : Placed n round source
  pub strong_low : strong < 2 ^ n
  pub timeouts_low : timeouts < 2 ^ n
  pub no_votes_low : no_votes < 2 ^ n
  pub strong_enough : strong_ok n round strong ≡ true
  pub timeouts_wanted : quorum_if n (lacks_leader n round strong) timeouts ≡ true
  pub no_votes_wanted : quorum_if n (lacks_leader n round strong && eqb source (leader n round)) no_votes ≡ true
  pub weak_few : length weak ≤ faulty n
  pub weak_fit : length weak ≤ weak_slots
  pub weak_member : (i : ℕ) → i < length weak → id_member (get_or weak i 0) < n
  pub weak_low : (i : ℕ) → i < length weak → 1 ≤ id_round (get_or weak i 0)
  pub weak_high : (i : ℕ) → i < length weak → id_round (get_or weak i 0) + 2 ≤ round
  pub weak_rising : (i : ℕ) → i + 1 < length weak → get_or weak i 0 < get_or weak (i + 1) 0

-- ---- 5 and 6

-- every round and signer with the number 0 is so, and neither question refuses one that is
abbrev pub SignerLaw : Type 0
SignerLaw = (n round signer : ℕ) → number_of (signer_refusal n round signer) ≡ 0 → Placed n round signer

abbrev pub PlacedLaw : Type 0
PlacedLaw = (n round signer : ℕ) → Placed n round signer → signer_refusal n round signer ≡ no_refusal

-- what is no round gives 5, whoever signs
abbrev pub NoRoundLaw : Type 0
NoRoundLaw = (n round signer : ℕ) → is_round round ≡ false → signer_refusal n round signer ≡ Err Round

-- ---- 8 to 10

-- a mask has q members, which are 2f + 1 of n, exactly if it meets the quorum, and so where it may be wanted
abbrev pub MeetsLaw : Type 0
MeetsLaw = (n q mask : ℕ) → QuorumOf n q → leb q (ones mask) ≡ meets n mask

abbrev pub WantedLaw : Type 0
WantedLaw = (n q : ℕ) (wanted : Bool) (mask : ℕ) → QuorumOf n q → handed_if q wanted mask ≡ quorum_if n wanted mask

-- 8 passes the empty strong mask in round 1, and in any other round asks for a quorum
abbrev pub StrongLaw : Type 0
StrongLaw = (n : ℕ) → (strong_ok n 1 0 ≡ true) × ((round strong : ℕ) → (round ≡ 1 → ⊥) → strong_ok n round strong ≡ meets n strong)

-- the previous leader is lacking from round 2 on only
abbrev pub LackingLaw : Type 0
LackingLaw = (n round strong : ℕ) → lacks_leader n round strong ≡ true → 2 ≤ round

-- ---- 4 to 11

-- every record with the number 0 is admitted
abbrev pub AdmittedLaw : Type 0
AdmittedLaw = (n round source : ℕ) (body : List ℕ) → number_of (body_refusal n round source body) ≡ 0 → Admitted n round source body

-- and has certificates against the one leader of the round before
abbrev pub CertifiedLaw : Type 0
CertifiedLaw = (n round source : ℕ) (body : List ℕ) → number_of (body_refusal n round source body) ≡ 0 → Certified n 1 round source body

-- and every record composed so has the number 0, whatever its digest
abbrev pub ComposedLaw : Type 0
ComposedLaw = (n round source strong timeouts no_votes : ℕ) (digest : Digest) (weak : List ℕ)
    → Composed n round source strong timeouts no_votes weak
    → number_of (record_refusal n (record_words round source strong timeouts no_votes digest.words weak)) ≡ 0

-- the number 0 is no question's
abbrev pub NumberedLaw : Type 0
NumberedLaw = (n round source : ℕ) → (numbered (signer_questions n round source) ≡ true)
    × ((body : List ℕ) → numbered (record_questions n round source body) ≡ true)

-- and no record's is above 11
abbrev pub LastNumberLaw : Type 0
LastNumberLaw = (n round source : ℕ) (body : List ℕ) → number_of (body_refusal n round source body) ≤ refusal_number Weak
