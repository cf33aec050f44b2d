-- The words of a record: round, source, and a body. Every size and place of them is written here.
use Rattle.std.specs.Prelude.{◌≡◌, refl, List, ◌∷◌, ◌++◌, ℕ, zero, suc, ◌+◌, ◌-◌, length, get_or, take, drop, replicate}

-- of a whole record
abbrev pub round_place : ℕ
round_place = 0

abbrev pub source_place : ℕ
source_place = 1

abbrev pub body_place : ℕ
body_place = 2

abbrev pub round_of : List ℕ → ℕ
round_of rec = get_or rec round_place 0

abbrev pub source_of : List ℕ → ℕ
source_of rec = get_or rec source_place 0

abbrev pub body_of : List ℕ → List ℕ
body_of rec = drop body_place rec

-- of a body
abbrev pub strong_place : ℕ
strong_place = 0

abbrev pub timeouts_place : ℕ
timeouts_place = 1

abbrev pub no_votes_place : ℕ
no_votes_place = 2

abbrev pub digest_place : ℕ
digest_place = 3

abbrev pub digest_size : ℕ
digest_size = 8

abbrev pub weak_count_place : ℕ
weak_count_place = digest_place + digest_size

abbrev pub weak_place : ℕ
weak_place = weak_count_place + 1

abbrev pub weak_slots : ℕ
weak_slots = 5

-- all of a body, and of a whole record
abbrev pub body_size : ℕ
body_size = weak_place + weak_slots

abbrev pub record_size : ℕ
record_size = body_place + body_size

-- each is 0 of the empty body, which stands for no record, and of it the digest is empty too
-- the mask of the parents in the round before
unfoldable pub strong_of : List ℕ → ℕ
strong_of body = get_or body strong_place 0

-- the mask of the signers of a timeout certificate for the round before
unfoldable pub timeouts_of : List ℕ → ℕ
timeouts_of body = get_or body timeouts_place 0

-- the mask of the signers of a no-vote certificate for the round before
unfoldable pub no_votes_of : List ℕ → ℕ
no_votes_of body = get_or body no_votes_place 0

-- those against leaders 1, 2, .. would stand behind the weak ids: there the body ends, since a round has one leader so far, and what is read beyond it is 0
abbrev pub more_no_votes_place : ℕ
more_no_votes_place = weak_place + weak_slots

-- the mask of the signers of a no-vote certificate against leader i of the round before
unfoldable pub no_votes_for : List ℕ → ℕ → ℕ
no_votes_for body zero = no_votes_of body
no_votes_for body (suc i) = get_or body (more_no_votes_place + i) 0

-- the host's name for its block: any words
unfoldable pub digest_of : List ℕ → List ℕ
digest_of body = take digest_size (drop digest_place body)

-- how many weak ids are used
unfoldable pub weak_count_of : List ℕ → ℕ
weak_count_of body = get_or body weak_count_place 0

-- the weak id in slot i
unfoldable pub weak_of : List ℕ → ℕ → ℕ
weak_of body i = get_or body (weak_place + i) 0

-- a digest that is handed over: its eight words
pub record Digest : Type 0 where
  pub words : List ℕ
  pub size : length words ≡ digest_size

-- the digest of 01's cases: a tag, and seven times 0
abbrev pub tagged : ℕ → Digest
tagged tag = record { words = tag ∷ replicate (digest_size - 1) 0; size = refl }

-- the weak ids in the first slots, and 0 in the others
abbrev pub slot_words : List ℕ → List ℕ
slot_words weak = weak ++ replicate (weak_slots - length weak) 0

-- a whole record: round, source, the three masks, the digest, and the weak ids
abbrev pub record_words : ℕ → ℕ → ℕ → ℕ → ℕ → List ℕ → List ℕ → List ℕ
record_words round source strong timeouts no_votes digest weak =
    round ∷ source ∷ strong ∷ timeouts ∷ no_votes ∷ (digest ++ length weak ∷ slot_words weak)
