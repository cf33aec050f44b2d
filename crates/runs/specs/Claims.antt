-- What holds of every call, as a claim. `proofs/` has a term of it.
use Rattle.std.specs.Prelude.{◌≡◌, List, ℕ}
use Rattle.replica.specs.Outcome.{Outcome}
use Rattle.runs.specs.Call.{Call, outcome_of}

-- nothing is added, and every word is as it was
pub record Untouched (l : List ℕ) (o : Outcome) : Type 0 where
  pub leaders : o.leaders ≡ 0
  pub journal : o.journal ≡ 0
  pub words : o.words ≡ l

-- A refused call: whatever the call, its arguments and the words, another number than 0 leaves every word of the state. What it leaves of a pending buffer
-- is `LeavesBuffer` in `pending/specs/Claims.antt`.
abbrev pub RefusedCalls : Type 0
RefusedCalls = (c : Call) (l : List ℕ) → ((outcome_of c l).number ≡ 0 → ⊥) → Untouched l (outcome_of c l)
