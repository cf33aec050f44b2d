-- What the inner functions of making and signing ask and answer. No claim rests on it.
use Rattle.std.specs.Prelude.{◌≡◌, Bool, true, cond, not, ◌&&◌, List, ℕ, zero, suc, ◌+◌, ◌-◌, ◌≤◌, ◌<◌, leb, ltb, length, get_or, set, Option, Some, None}
use Rattle.std.specs.Int.Count.{ones}
use Rattle.record.specs.Members.{rounds, slots, has, id_of, id_member}
use Rattle.record.specs.Layout.{body_place, weak_count_place, weak_place}
use Rattle.replica.specs.Layout.{state_size}
use Rattle.replica.specs.State.{member_count, current_round, held_mask, timeouts_mask, no_votes_mask, own_word}
use Rattle.replica.specs.WellFormed.{well_formed}
use Rattle.proposing.specs.Making.{made_strong, wants_timeouts, wants_no_votes}
use Rattle.proposing.specs.declared.making.Draft.{Draft}

-- the words of a member's well-formed state, its member count and its current round
pub record Opened (l : List ℕ) (n round : ℕ) : Type 0 where
  pub size : length l ≡ state_size
  pub formed : well_formed l ≡ true
  pub members : n ≡ member_count l
  pub some : 0 < n
  pub few : n ≤ slots
  pub current : round ≡ current_round l
  pub low : 1 ≤ round
  pub last : round ≤ rounds + 1
  pub own : 1 ≤ own_word l

-- so of a current round that a record can be made for
pub record Current (l : List ℕ) (n round : ℕ) : Type 0 where
  pub opened : Opened l n round
  pub high : round ≤ rounds

-- the masks of the record that is made: those of the round before where they are wanted
abbrev pub draft_of : List ℕ → Draft
draft_of l = record {
  strong = made_strong l;
  timeouts = cond (wants_timeouts l) (Some (timeouts_mask l (current_round l - 1))) None;
  no_votes = cond (wants_no_votes l) (Some (no_votes_mask l (current_round l - 1))) None;
}

-- a mask that is wanted has at least q members
abbrev pub enough_in : ℕ → Option ℕ → Bool
enough_in q None = true
enough_in q (Some m) = leb q (ones m)

-- ---- weak ids, one after the other

-- the weak count of a whole record
abbrev pub count_in : List ℕ → ℕ
count_in rec = get_or rec (body_place + weak_count_place) 0

-- the record with the id behind its weak ids
unfoldable pub add_weak : List ℕ → ℕ → List ℕ
add_weak rec y = set (set rec (body_place + weak_place + count_in rec) y) (body_place + weak_count_place) (count_in rec + 1)

-- so for an id whose member is in the held mask and not in the reached one, where the record has fewer than most
unfoldable pub offer_id : List ℕ → ℕ → ℕ → ℕ → ℕ → List ℕ
offer_id rec most held reached y =
    cond (has held (id_member y) && (not (has reached (id_member y)) && ltb (count_in rec) most)) (add_weak rec y) rec

-- so for the ids of round r and the members below k
unfoldable pub offer_round : List ℕ → ℕ → ℕ → ℕ → ℕ → ℕ → List ℕ
offer_round rec most held reached r zero = rec
offer_round rec most held reached r (suc k) = offer_id (offer_round rec most held reached r k) most held reached (id_of r k)

-- so for the rounds 1 to k of a state, with a mask of what is reached for each
unfoldable pub offer_rounds : List ℕ → ℕ → List ℕ → List ℕ → ℕ → List ℕ
offer_rounds rec most l reached zero = rec
offer_rounds rec most l reached (suc k) = offer_round (offer_rounds rec most l reached k) most (held_mask l (suc k)) (get_or reached k 0) (suc k) slots
