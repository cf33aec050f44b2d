-- What making and signing share: the own member, the rounds that are marked in words 6 and 7, and the questions that both ask first.
use Rattle.std.specs.Prelude.{Bool, not, ◌&&◌, List, [], ◌∷◌, ◌++◌, ℕ, ◌-◌, eqb, get_or, set}
use Rattle.record.specs.Members.{is_round, has, add}
use Rattle.record.specs.Refusals.{Question}
use Rattle.record.specs.declared.refusal.Refusal.TheVariants.{Watcher}
use Rattle.replica.specs.Layout.{watcher}
use Rattle.replica.specs.State.{own_word, made_rounds, signed_rounds}
use Rattle.replica.specs.Status.{state_questions}

-- the state is a member's, not a watcher's
abbrev pub is_member : List ℕ → Bool
is_member l = not (eqb (own_word l) watcher)

abbrev pub own_member : List ℕ → ℕ
own_member l = own_word l - 1

-- round r is marked in a word: its bit r - 1 is set
unfoldable pub marks_round : ℕ → ℕ → Bool
marks_round word r = is_round r && has word (r - 1)

-- a record for round r was made
abbrev pub was_made : List ℕ → ℕ → Bool
was_made l r = marks_round (made_rounds l) r

-- a no-vote for round r was signed
abbrev pub was_signed : List ℕ → ℕ → Bool
was_signed l r = marks_round (signed_rounds l) r

-- the words with round r marked in the word at
unfoldable pub mark_round : List ℕ → ℕ → ℕ → List ℕ
mark_round l at r = set l at (add (get_or l at 0) (r - 1))

-- questions 1, 3 and 16
abbrev pub member_questions : List ℕ → List Question
member_questions l = state_questions l ++ ((is_member l, Watcher) ∷ [])
