-- Request A1, the conduct claim: a host that sends what making and signing answered is an honest member.
use Rattle.std.specs.Prelude.{◌≡◌, true, false, cond, ℕ, ◌+◌, ◌-◌, ◌≤◌, eqb}
use mathlib.Core.List.{List, [], ◌∷◌, Memᴰ}
use Rattle.record.specs.Layout.{round_of, body_of}
use Rattle.protocol.specs.Dag.{votes}
use Rattle.protocol.specs.Journal.{among}
use Rattle.replica.specs.Opening.{open_state}
use Rattle.proposing.specs.Claims.{Passes}
use Rattle.runs.specs.Call.{Call, all_allowed}
use Rattle.pending.specs.Buffer.{In}
use Rattle.conduct.specs.Made.{Made, all_made, made_records, rounds_signed}

-- how many of the records are of round r
unfoldable pub of_round : ℕ → List (List ℕ) → ℕ
of_round r [] = 0
of_round r (x ∷ l) = cond (eqb (round_of x) r) 1 0 + of_round r l

-- of the calls on the words l of a state of n members
pub record Honest (n : ℕ) (l : List ℕ) (calls : List Call) : Type 0 where
  -- at most one record was made for a round
  pub one_record : (r : ℕ) → of_round r (made_records l calls) ≤ 1
  -- for no round was both a record made that votes for its leader, which is leader 0 of the round, and a no-vote signed
  pub no_both : (x : List ℕ) → In x (made_records l calls) → votes n (round_of x - 1) 0 (body_of x) ≡ true
      → among (rounds_signed l calls) (round_of x - 1) ≡ false
  -- every made record passes questions 5 to 11, and 14 on the state that made it
  pub passing : (m : Made) → Memᴰ m (all_made l calls) → Passes m.state m.words

-- THE CLAIM. A state is opened with answer 0 on any words; then any list of calls follows, with no other opening that succeeds.
abbrev pub ConductClaim : Type 0
ConductClaim = (n own : ℕ) (u : List ℕ) → (open_state u n own).number ≡ 0 → (calls : List Call) → all_allowed calls ≡ true
    → Honest n (open_state u n own).words calls
