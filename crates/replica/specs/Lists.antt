-- Asking for and handing over a list: the leader list, or the journal.
use Rattle.std.specs.Prelude.{◌≡◌, cond, List, [], ◌∷◌, ◌++◌, ℕ, ◌+◌, ◌-◌, ◌≤◌, eqb, leb, length, drop}
use Rattle.record.specs.Refusals.{Question, first_no}
use Rattle.record.specs.declared.refusal.Refusal.TheVariants.{PastEnd}
use Rattle.replica.specs.Layout.{leaders_at, journal_at}
use Rattle.replica.specs.State.{leader_count, journal_count, leader_list, journal_list}
use Rattle.replica.specs.Outcome.{Outcome, unchanged}
use Rattle.replica.specs.Status.{state_questions}
use Rattle.replica.specs.Place.{Span, words_in}

-- ---- asking

-- for entries k and on of a list of so many
abbrev pub list_questions : List ℕ → ℕ → ℕ → List Question
list_questions l k count = state_questions l ++ ((leb k count, PastEnd) ∷ [])

abbrev pub ask_list : List ℕ → ℕ → ℕ → Outcome
ask_list l k count = unchanged (first_no (list_questions l k count)) l

abbrev pub ask_leaders : List ℕ → ℕ → Outcome
ask_leaders l k = ask_list l k (leader_count l)

abbrev pub ask_journal : List ℕ → ℕ → Outcome
ask_journal l k = ask_list l k (journal_count l)

-- ---- handing over

-- with the number 0 the entries k up to the count of a list that begins at word `first`, and no words with any other
unfoldable pub span_if : ℕ → ℕ → ℕ → ℕ → Span
span_if number first k count =
    cond (eqb number 0) (record { number = 0; start = first + k; length = count - k }) (record { number = number; start = 0; length = 0 })

-- the number is the asking call's
abbrev pub hand_list : List ℕ → ℕ → ℕ → ℕ → Span
hand_list l k first count = span_if (ask_list l k count).number first k count

abbrev pub hand_leaders : List ℕ → ℕ → Span
hand_leaders l k = hand_list l k leaders_at (leader_count l)

abbrev pub hand_journal : List ℕ → ℕ → Span
hand_journal l k = hand_list l k journal_at (journal_count l)

-- ---- what that gives

-- a part lies within the words; with the number 0 it is the list from entry k on, and with any other it has no words
pub record Handed (l : List ℕ) (k : ℕ) (list : List ℕ) (s : Span) : Type 0 where
  pub within : s.start + s.length ≤ length l
  pub given : s.number ≡ 0 → words_in l s ≡ drop k list
  pub refused : (s.number ≡ 0 → ⊥) → s.length ≡ 0

-- THE LAW: so are both hand-overs, of any words
abbrev pub HandOverLaw : Type 0
HandOverLaw = (l : List ℕ) (k : ℕ) → Handed l k (leader_list l) (hand_leaders l k) × Handed l k (journal_list l) (hand_journal l k)
