-- Signing our own no-vote, for the round before the current one.
use Rattle.std.specs.Prelude.{Bool, not, ◌&&◌, List, [], ◌∷◌, ◌++◌, ℕ, ◌-◌, leb}
use Rattle.record.specs.Members.{leader, has}
use Rattle.record.specs.Refusals.{Verdict, Question, first_no}
use Rattle.record.specs.declared.refusal.Refusal.TheVariants.{Signing, Duplicate}
use Rattle.replica.specs.Layout.{signed_at, no_votes_at}
use Rattle.replica.specs.State.{member_count, current_round, held_mask, add_member}
use Rattle.replica.specs.Outcome.{Outcome, outcome}
use Rattle.proposing.specs.Own.{own_member, was_made, was_signed, mark_round, member_questions}

-- the round that a no-vote is signed for
abbrev pub signing_round : List ℕ → ℕ
signing_round l = current_round l - 1

-- there is such a round, its leader's vertex is not held, and no record for the current round was made
unfoldable pub may_sign : List ℕ → Bool
may_sign l =
    leb 2 (current_round l)
    && (not (has (held_mask l (signing_round l)) (leader (member_count l) (signing_round l))) && not (was_made l (current_round l)))

-- after 1, 3 and 16: 17, and 12 if it was signed already
abbrev pub signing_questions : List ℕ → List Question
signing_questions l = (may_sign l, Signing) ∷ (not (was_signed l (signing_round l)), Duplicate) ∷ []

abbrev pub sign_refusal : List ℕ → Verdict
sign_refusal l = first_no (member_questions l ++ signing_questions l)

-- round r is marked, and the own member joins its no-votes
unfoldable pub put_own_no_vote : List ℕ → ℕ → List ℕ
put_own_no_vote l r = add_member (mark_round l signed_at r) (no_votes_at r) (own_member l)

unfoldable pub sign_no_vote : List ℕ → Outcome
sign_no_vote l = outcome (sign_refusal l) l (put_own_no_vote l (signing_round l))
