-- What holds of making and signing on any words, as claims. `proofs/` has a term of each.
use Rattle.std.specs.Prelude.{◌≡◌, true, List, ℕ, length}
use Rattle.record.specs.Refusals.{number_of}
use Rattle.record.specs.Layout.{round_of, body_of, digest_of, Digest}
use Rattle.record.specs.Questions.{record_refusal}
use Rattle.replica.specs.Layout.{state_size}
use Rattle.replica.specs.State.{member_count}
use Rattle.replica.specs.Parents.{parents_held}
use Rattle.replica.specs.WellFormed.{well_formed}
use Rattle.ordering.specs.Kept.{LeavesWellFormed}
use Rattle.proposing.specs.Making.{propose_vertex}
use Rattle.proposing.specs.Signing.{sign_no_vote}

-- the record passes questions 5 to 11, and 14 on the state l
pub record Passes (l rec : List ℕ) : Type 0 where
  pub questions : number_of (record_refusal (member_count l) rec) ≡ 0
  pub parents : parents_held l (round_of rec) (body_of rec) ≡ true

-- every made record passes them on the state that made it
abbrev pub MadePasses : Type 0
MadePasses = (l : List ℕ) (digest : Digest) → (propose_vertex l digest.words).outcome.number ≡ 0 → Passes l (propose_vertex l digest.words).made

-- and has the digest that was handed over
abbrev pub MadeDigest : Type 0
MadeDigest = (l : List ℕ) (digest : Digest) → (propose_vertex l digest.words).outcome.number ≡ 0
    → digest_of (body_of (propose_vertex l digest.words).made) ≡ digest.words

-- both calls on a well-formed state leave one, admitted or refused
abbrev pub OwnKeepsWellFormed : Type 0
OwnKeepsWellFormed = (l : List ℕ) → length l ≡ state_size → well_formed l ≡ true
    → ((digest : List ℕ) → LeavesWellFormed (propose_vertex l digest).outcome) × LeavesWellFormed (sign_no_vote l)
