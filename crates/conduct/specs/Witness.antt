-- The conduct claim is not about empty lists: member 2 of four makes three records and signs a no-vote.
use Rattle.std.specs.Prelude.{◌≡◌, true, false, List, [], ◌∷◌, ◌++◌, ℕ}
use Rattle.record.specs.Layout.{body_of, tagged, record_words}
use Rattle.protocol.specs.Dag.{votes}
use Rattle.replica.specs.Opening.{opened, open_state}
use Rattle.runs.specs.Call.{Call, vertex, timeout, no_vote, bundle, making, signing, all_allowed}
use Rattle.conduct.specs.Made.{made_records, rounds_signed}

-- the word of member 2
abbrev pub own : ℕ
own = 3

-- the state: opened for it
abbrev pub start : List ℕ
start = (open_state (opened 4 own) 4 own).words

-- a record of round r and source p, with its three masks and no weak ids
abbrev pub rec : ℕ → ℕ → ℕ → ℕ → ℕ → ℕ → List ℕ
rec r p strong timeouts no_votes tag = record_words r p strong timeouts no_votes (tagged tag).words []

-- The records that it makes: of round 1; of round 2, voting for the leader of round 1; and of round 3, which it leads, without the leader of round 2 and with
-- both certificates.
abbrev pub first : List ℕ
first = rec 1 2 0 0 0 30

abbrev pub voting : List ℕ
voting = rec 2 2 15 0 0 31

abbrev pub against : List ℕ
against = rec 3 2 13 13 13 32

-- Round 1 from all four. Of round 2 the leader, member 1, is silent: the others time out, which comes as a note of member 0 and a bundle of all three,
-- and sign no-votes.
unfoldable pub calls : List Call
calls =
    (making (tagged 30) ∷ vertex first ∷ vertex (rec 1 0 0 0 0 10) ∷ vertex (rec 1 1 0 0 0 11) ∷ vertex (rec 1 3 0 0 0 13) ∷ [])
    ++ ((making (tagged 31) ∷ vertex voting ∷ vertex (rec 2 0 15 0 0 20) ∷ vertex (rec 2 3 15 0 0 23) ∷ [])
    ++ ((timeout 2 0 ∷ bundle 2 13 ∷ signing ∷ no_vote 2 0 ∷ no_vote 2 3 ∷ [])
    ++ (making (tagged 32) ∷ making (tagged 33) ∷ signing ∷ [])))

pub record Witness : Type 0 where
  -- what the claim asks
  pub opens : (open_state (opened 4 own) 4 own).number ≡ 0
  pub allowed_calls : all_allowed calls ≡ true
  -- what was made and signed: the last two calls are refused
  pub made : made_records start calls ≡ first ∷ voting ∷ against ∷ []
  pub signed : rounds_signed start calls ≡ 2 ∷ []
  -- a vote, and none beside the no-vote: for leader 0 of the round
  pub votes_for : votes 4 1 0 (body_of voting) ≡ true
  pub votes_against : votes 4 2 0 (body_of against) ≡ false
