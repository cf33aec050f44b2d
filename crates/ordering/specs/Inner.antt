-- What the inner functions of the calls ask and answer. No claim rests on it.
use Rattle.std.specs.Prelude.{◌≡◌, true, not, List, [], ◌∷◌, ◌++◌, ℕ, ◌≤◌, ◌<◌, length}
use Rattle.record.specs.Members.{legal, has, rounds, slots}
use Rattle.record.specs.Refusals.{number_of, Question, first_no}
use Rattle.record.specs.Layout.{round_of, source_of, body_of}
use Rattle.record.specs.Questions.{record_questions, body_refusal}
use Rattle.record.specs.declared.refusal.Refusal.TheVariants.{Duplicate}
use Rattle.replica.specs.Layout.{state_size}
use Rattle.replica.specs.State.{member_count, heard_mask}
use Rattle.ordering.specs.Calls.{vertex_questions}

-- questions 4 to 12 of a first message, of a record among n members
abbrev pub hearing_questions : List ℕ → ℕ → List ℕ → List Question
hearing_questions l n rec =
    record_questions n (round_of rec) (source_of rec) (body_of rec) ++ ((not (has (heard_mask l (round_of rec)) (source_of rec)), Duplicate) ∷ [])

-- the words of a state, and a vertex that the record's questions admit among n members
pub record Placing (l : List ℕ) (n r p : ℕ) (body : List ℕ) : Type 0 where
  pub size : length l ≡ state_size
  pub legit : legal n ≡ true
  pub admitted : number_of (body_refusal n r p body) ≡ 0

-- so of a source that does not matter
pub record Searching (l : List ℕ) (n r : ℕ) (body : List ℕ) : Type 0 where
  pub source : ℕ
  pub placing : Placing l n r source body

-- a vertex that no question stops on a state of n members
pub record Unstopped (l : List ℕ) (n : ℕ) (rec : List ℕ) : Type 0 where
  pub members : n ≡ member_count l
  pub passed : number_of (first_no (vertex_questions l (round_of rec) (source_of rec) (body_of rec))) ≡ 0

-- the words of a state of n members, and the round, source and strong mask of a first message that the record's questions admit
pub record Hearing (l : List ℕ) (n r p strong : ℕ) : Type 0 where
  pub size : length l ≡ state_size
  pub members : n ≡ member_count l
  pub some : 0 < n
  pub few : n ≤ slots
  pub low : 1 ≤ r
  pub high : r ≤ rounds
  pub source : p < slots
  pub first : r ≡ 1 → strong ≡ 0
