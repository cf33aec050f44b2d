-- On a well-formed state, handing over from entry 0 gives the whole lists. Assumes nothing.
use mathlib.Core.Path.{◌≡◌, sym, ap}
use mathlib.Core.Bool.{true}
use mathlib.Core.List.{List}
use Prim.Native.Nat.{ℕ}
use native.Mathlib.Omega.{arith}
use lib.ListN.{length}
use borrow.Author.Tests.{eq-eqb, le-leb}
use Rattle.record.specs.Refusals.{number_of}
use Rattle.record.proofs.Turn.{next, done}
use Rattle.replica.specs.Layout.{state_size, leaders_at, journal_at}
use Rattle.replica.specs.State.{leader_count, journal_count, leader_list, journal_list}
use Rattle.replica.specs.WellFormed.{well_formed}
use Rattle.replica.specs.Place.{Span}
use Rattle.replica.specs.Lists.{ask_list, hand_list}
use Rattle.replica.proofs.ListLaws.{span_some, hand_over}
use Rattle.agreement.specs.Claim.{leaders_in, journal_in}

module _ (l : List ℕ) (size : length l ≡ state_size) (formed : well_formed l ≡ true) where
  -- the number is 0
  from_start : (first count : ℕ) → (hand_list l 0 first count).number ≡ 0
  from_start first count = ap (λ (s : Span). s.number) (span_some (ask_list l 0 count).number first 0 count
      (ap number_of (sym (next _ _ (eq-eqb (length l) state_size size) (next _ _ formed (next _ _ (le-leb 0 count (omega arith)) done))))))

  -- the leader list
  pub hand_leaders_lem : leaders_in l ≡ leader_list l
  hand_leaders_lem = (hand_over l 0).0.given (from_start leaders_at (leader_count l))

  -- the journal
  pub hand_journal_lem : journal_in l ≡ journal_list l
  hand_journal_lem = (hand_over l 0).1.given (from_start journal_at (journal_count l))
