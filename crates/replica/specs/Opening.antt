-- Opening.
use Rattle.std.specs.Prelude.{List, [], ◌∷◌, ℕ, eqb, leb, length, set, replicate}
use Rattle.record.specs.Members.{legal}
use Rattle.record.specs.Refusals.{Question, first_no}
use Rattle.record.specs.declared.refusal.Refusal.TheVariants.{StateSize, MemberCount, Source}
use Rattle.replica.specs.Layout.{state_size, member_count_at, current_round_at, own_at}
use Rattle.replica.specs.Outcome.{Outcome, outcome}

-- own is the own member plus 1, or a watcher's word: a member above n - 1 gives 6
abbrev pub open_questions : List ℕ → ℕ → ℕ → List Question
open_questions l n own = (eqb (length l) state_size, StateSize) ∷ (legal n, MemberCount) ∷ (leb own n, Source) ∷ []

-- n, current round 1, own, all others 0
unfoldable pub opened : ℕ → ℕ → List ℕ
opened n own = set (set (set (replicate state_size 0) member_count_at n) current_round_at 1) own_at own

unfoldable pub open_state : List ℕ → ℕ → ℕ → Outcome
open_state l n own = outcome (first_no (open_questions l n own)) l (opened n own)
