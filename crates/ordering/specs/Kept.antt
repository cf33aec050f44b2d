-- No call spoils a well-formed state, as a claim. `proofs/` has a term of it.
use Rattle.std.specs.Prelude.{◌≡◌, true, List, ℕ, length}
use Rattle.replica.specs.Layout.{state_size}
use Rattle.replica.specs.WellFormed.{well_formed}
use Rattle.replica.specs.Outcome.{Outcome}
use Rattle.ordering.specs.Calls.{take_body, take_first_body, take_timeout, take_no_vote, take_timeouts}

-- the words afterwards are as many as a state has, and well formed
abbrev pub LeavesWellFormed : Outcome → Type 0
LeavesWellFormed o = (length o.words ≡ state_size) × (well_formed o.words ≡ true)

-- every call on a well-formed state leaves one, admitted or refused
abbrev pub KeepsWellFormed : Type 0
KeepsWellFormed = (l : List ℕ) → length l ≡ state_size → well_formed l ≡ true
    → ((r p : ℕ) (body : List ℕ) → LeavesWellFormed (take_body l r p body))
    × ((r p : ℕ) (body : List ℕ) → LeavesWellFormed (take_first_body l r p body))
    × ((r p : ℕ) → LeavesWellFormed (take_timeout l r p))
    × ((r p : ℕ) → LeavesWellFormed (take_no_vote l r p))
    × ((r mask : ℕ) → LeavesWellFormed (take_timeouts l r mask))
