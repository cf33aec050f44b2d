-- What an admitted vertex does to the current round, as a claim. `proofs/` has a term of it.
use Rattle.std.specs.Prelude.{◌≡◌, List, ℕ, ◌≤◌}
use Rattle.record.specs.Layout.{round_of}
use Rattle.replica.specs.State.{current_round}
use Rattle.ordering.specs.Calls.{take_vertex}

-- after an admitted vertex of round r the current round is at least r
abbrev pub ReachesItsRound : Type 0
ReachesItsRound = (l rec : List ℕ) → (take_vertex l rec).number ≡ 0 → round_of rec ≤ current_round (take_vertex l rec).words
