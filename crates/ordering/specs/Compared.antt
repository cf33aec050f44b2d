-- Request A7. What 12 and 13 compare, as a claim: all words of a vertex, those of its digest too. `proofs/` has a term of it.
use Rattle.std.specs.Prelude.{◌≡◌, List, ℕ}
use Rattle.record.specs.Refusals.{refusal_number}
use Rattle.record.specs.Layout.{round_of, source_of, body_of}
use Rattle.record.specs.declared.refusal.Refusal.TheVariants.{Duplicate, Conflict}
use Rattle.replica.specs.State.{vertices}
use Rattle.ordering.specs.Calls.{take_vertex}

-- the vertex that is held of the record's round and source
abbrev pub held_body : List ℕ → List ℕ → List ℕ
held_body l rec = vertices l (round_of rec) (source_of rec)

-- with 12 it has the words of the record, and with 13 some word differs
pub record Compared (l rec : List ℕ) : Type 0 where
  pub same : (take_vertex l rec).number ≡ refusal_number Duplicate → held_body l rec ≡ body_of rec
  pub other : (take_vertex l rec).number ≡ refusal_number Conflict → held_body l rec ≡ body_of rec → ⊥

abbrev pub ComparesAllWords : Type 0
ComparesAllWords = (l rec : List ℕ) → Compared l rec
