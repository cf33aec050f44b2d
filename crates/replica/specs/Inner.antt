-- What the inner functions of the test of question 3 ask of what they are lent. No claim rests on it.
use Rattle.std.specs.Prelude.{◌≡◌, true, ◌⊎◌, List, ℕ, ◌≤◌, ◌<◌, length}
use Rattle.record.specs.Members.{rounds, legal, id_round}
use Rattle.record.specs.Layout.{body_size, weak_slots, weak_count_of, weak_of}
use Rattle.record.specs.Refusals.{number_of}
use Rattle.record.specs.Questions.{body_refusal}
use Rattle.record.specs.Inner.{Known}
use Rattle.replica.specs.Layout.{state_size, leaders_at, leader_count_at, journal_at, journal_count_at}
use Rattle.replica.specs.State.{member_count}
use Rattle.replica.specs.WellFormed.{each_round, masks_within}

-- the words where one of the two lists begins, and where its count stands
pub record ListAt (first count : ℕ) : Type 0 where
  pub inside : first ≤ state_size
  pub low : leader_count_at ≤ count
  pub high : count ≤ journal_count_at
  pub list : ((first ≡ leaders_at) × (count ≡ leader_count_at)) ⊎ ((first ≡ journal_at) × (count ≡ journal_count_at))

-- the words of a state whose member count is legal and whose masks lie within it
pub record Grouped (l : List ℕ) : Type 0 where
  pub size : length l ≡ state_size
  pub group : legal (member_count l) ≡ true
  pub masks : each_round (masks_within l) ≡ true

-- such words of n members, and a round
pub record GroupedRound (l : List ℕ) (n r : ℕ) : Type 0 where
  pub words : Grouped l
  pub members : n ≡ member_count l
  pub low : 1 ≤ r
  pub high : r ≤ rounds

-- such words, and the body of a record of round r and member p of which 4 to 6 are answered yes
pub record KnownIn (l : List ℕ) (n r p : ℕ) (body : List ℕ) : Type 0 where
  pub words : Grouped l
  pub members : n ≡ member_count l
  pub known : Known n r p body

-- the words of a state, and the body of a record of round r that its group admits
pub record AdmittedIn (l : List ℕ) (r : ℕ) (body : List ℕ) : Type 0 where
  pub size : length l ≡ state_size
  pub group : legal (member_count l) ≡ true
  pub source : ℕ
  pub admitted : number_of (body_refusal (member_count l) r source body) ≡ 0

-- the words of a state, and a body whose weak ids are of rounds
pub record WeakIn (l body : List ℕ) : Type 0 where
  pub size : length l ≡ state_size
  pub body_long : length body ≡ body_size
  pub few : weak_count_of body ≤ weak_slots
  pub low : (i : ℕ) → i < weak_count_of body → 1 ≤ id_round (weak_of body i)
  pub high : (i : ℕ) → i < weak_count_of body → id_round (weak_of body i) ≤ rounds
