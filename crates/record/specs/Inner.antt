-- What the inner functions of the questions ask and answer. No claim rests on it.
use Rattle.std.specs.Prelude.{◌≡◌, Bool, true, cond, ◌&&◌, List, ℕ, ◌-◌, ◌≤◌, ◌<◌, leb, length}
use Rattle.record.specs.Members.{rounds, within, slots}
use Rattle.record.specs.Layout.{body_size, weak_slots, strong_of, weak_count_of}
use Rattle.record.specs.Questions.{masks_ok}
use Rattle.record.specs.Handed.{handed_strong, handed_if, handed_timeouts, handed_no_votes}

-- a body of a record of n members of which 4 to 6 are answered yes
pub record Known (n round source : ℕ) (body : List ℕ) : Type 0 where
  pub round_low : 1 ≤ round
  pub round_high : round ≤ rounds
  pub source_low : source < n
  pub size : length body ≡ body_size

-- 9 and 10, and 7 of the two masks, where the strong mask lacks the previous leader
unfoldable pub certified : ℕ → ℕ → Bool → ℕ → ℕ → Bool
certified n q leads timeouts no_votes = (within n timeouts && within n no_votes) && (handed_if q true timeouts && handed_if q leads no_votes)

-- 7 to 10 together: what is asked of the three masks
unfoldable pub masks_admitted : ℕ → ℕ → ℕ → ℕ → List ℕ → Bool
masks_admitted n q round source body =
    masks_ok n body && (handed_strong q round (strong_of body) && (handed_timeouts n q round body && handed_no_votes n q round source body))

-- the number before the first id
abbrev pub before_ids : ℕ
before_ids = slots - 1

-- how many slots of weak ids are used: all, where the count is above their number
unfoldable pub used_slots : List ℕ → ℕ
used_slots body = cond (leb (weak_count_of body) weak_slots) (weak_count_of body) weak_slots
