-- Questions 4 to 11 handed the number q that is to make a quorum, and the claims that 2f + 1 of n makes them those of n alone, and of a legal n
-- no other number does.
use Rattle.std.specs.Prelude.{◌≡◌, Bool, true, cond, ◌&&◌, List, ◌∷◌, ◌++◌, ℕ, eqb, leb, take, drop}
use Rattle.std.specs.Int.Count.{ones}
use Rattle.record.specs.Members.{legal, quorum, leader}
use Rattle.record.specs.Refusals.{Verdict, number_of, Question, first_no}
use Rattle.record.specs.Layout.{strong_of, timeouts_of, no_votes_of}
use Rattle.record.specs.Questions.{lacks_leader, record_questions, body_refusal}
use Rattle.record.specs.declared.refusal.Refusal.TheVariants.{Strong, Timeouts, NoVotes}

-- q is 2f + 1 of n
abbrev pub QuorumOf : ℕ → ℕ → Type 0
QuorumOf n q = q ≡ quorum n

-- 8: the strong mask is 0 in round 1, and has at least q members later
unfoldable pub handed_strong : ℕ → ℕ → ℕ → Bool
handed_strong q round strong = cond (eqb round 1) (eqb strong 0) (leb q (ones strong))

-- 9 and 10: the mask has at least q members where it is wanted, and is 0 where not
unfoldable pub handed_if : ℕ → Bool → ℕ → Bool
handed_if q wanted mask = cond wanted (leb q (ones mask)) (eqb mask 0)

unfoldable pub handed_timeouts : ℕ → ℕ → ℕ → List ℕ → Bool
handed_timeouts n q round body = handed_if q (lacks_leader n round (strong_of body)) (timeouts_of body)

unfoldable pub handed_no_votes : ℕ → ℕ → ℕ → ℕ → List ℕ → Bool
handed_no_votes n q round source body = handed_if q (lacks_leader n round (strong_of body) && eqb source (leader n round)) (no_votes_of body)

-- The questions in turn: those of `record_questions`, but for 8 to 10.
unfoldable pub handed_questions : ℕ → ℕ → ℕ → ℕ → List ℕ → List Question
handed_questions n q round source body =
    take 4 (record_questions n round source body)
    ++ ((handed_strong q round (strong_of body), Strong)
    ∷ (handed_timeouts n q round body, Timeouts)
    ∷ (handed_no_votes n q round source body, NoVotes)
    ∷ drop 7 (record_questions n round source body))

abbrev pub handed_refusal : ℕ → ℕ → ℕ → ℕ → List ℕ → Verdict
handed_refusal n q round source body = first_no (handed_questions n q round source body)

-- Handed 2f + 1 of n, they refuse every record, of whatever round and source, as they do from n alone: with the same number, or not at all.
-- This holds of every n, so of every legal one.
abbrev pub HandedLaw : Type 0
HandedLaw = (n q : ℕ) → QuorumOf n q → (round source : ℕ) (body : List ℕ) → handed_refusal n q round source body ≡ body_refusal n round source body

-- And handed any other number, with a legal n, they give some record another number.
abbrev pub OnlyQuorumLaw : Type 0
OnlyQuorumLaw = (n q : ℕ) → legal n ≡ true
    → ((round source : ℕ) (body : List ℕ) → number_of (handed_refusal n q round source body) ≡ number_of (body_refusal n round source body))
    → QuorumOf n q
