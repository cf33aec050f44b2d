-- Making our own vertex: a record for the current round.
use Rattle.std.specs.Prelude.{Bool, cond, not, ◌&&◌, List, [], ◌∷◌, ◌++◌, ℕ, ◌+◌, ◌-◌, eqb, leb, take, replicate, Result, Ok, Err}
use Rattle.record.specs.Below.{any, select}
use Rattle.record.specs.Members.{is_round, faulty, leader, has, remove, id_round, id_limit}
use Rattle.record.specs.Refusals.{Verdict, number_of, id_in, Question, first_no}
use Rattle.record.specs.Layout.{record_size, record_words}
use Rattle.record.specs.Questions.{strong_ok, lacks_leader, quorum_if}
use Rattle.record.specs.declared.refusal.Refusal.{Refusal}
use Rattle.record.specs.declared.refusal.Refusal.TheVariants.{Round, Timeouts, NoVotes, Duplicate, FewParents}
use Rattle.protocol.specs.Paths.{history}
use Rattle.replica.specs.Layout.{made_at}
use Rattle.replica.specs.State.{member_count, current_round, held_mask, timeouts_mask, no_votes_mask, vertices, held_id}
use Rattle.replica.specs.Outcome.{Outcome, outcome}
use Rattle.proposing.specs.Own.{own_member, was_made, was_signed, mark_round, member_questions}

-- ---- the strong mask

-- all held of round r, less its leader if we signed a no-vote for that round
unfoldable pub parents_in : List ℕ → ℕ → ℕ
parents_in l r = cond (was_signed l r) (remove (held_mask l r) (leader (member_count l) r)) (held_mask l r)

-- those of the round before; round 1 has none
unfoldable pub made_strong : List ℕ → ℕ
made_strong l = cond (eqb (current_round l) 1) 0 (parents_in l (current_round l - 1))

-- ---- the certificates

-- where question 9 wants timeouts, and question 10 no-votes
abbrev pub wants_timeouts : List ℕ → Bool
wants_timeouts l = lacks_leader (member_count l) (current_round l) (made_strong l)

abbrev pub wants_no_votes : List ℕ → Bool
wants_no_votes l = wants_timeouts l && eqb (own_member l) (leader (member_count l) (current_round l))

-- the masks of the round before are copied there
unfoldable pub made_timeouts : List ℕ → ℕ
made_timeouts l = cond (wants_timeouts l) (timeouts_mask l (current_round l - 1)) 0

unfoldable pub made_no_votes : List ℕ → ℕ
made_no_votes l = cond (wants_no_votes l) (no_votes_mask l (current_round l - 1)) 0

-- ---- the weak ids

-- a strong parent reaches the vertex with the id y by strong and weak edges
abbrev pub is_reached : List ℕ → ℕ → Bool
is_reached l y = any (member_count l) (λ p. has (made_strong l) p && history (member_count l) (vertices l) (current_round l - 1) p y)

-- y is the id of a held vertex, two or more rounds down, that none reaches
unfoldable pub is_unreached : List ℕ → ℕ → Bool
is_unreached l y = held_id l y && (leb (id_round y + 2) (current_round l) && not (is_reached l y))

-- the f lowest of these
abbrev pub made_weak : List ℕ → List ℕ
made_weak l = take (faulty (member_count l)) (select id_limit (is_unreached l))

-- ---- the record

unfoldable pub made_record : List ℕ → List ℕ → List ℕ
made_record l digest = record_words (current_round l) (own_member l) (made_strong l) (made_timeouts l) (made_no_votes l) digest (made_weak l)

-- in the place of a record where making is refused
abbrev pub no_record : List ℕ
no_record = replicate record_size 0

-- ---- the call

-- after 1, 3 and 16: 5 in round 33, 9 and 10 of masks that are too small, 12 if it was made already, 18 of too few strong parents
unfoldable pub making_questions : List ℕ → List Question
making_questions l =
    (is_round (current_round l), Round)
    ∷ (quorum_if (member_count l) (wants_timeouts l) (made_timeouts l), Timeouts)
    ∷ (quorum_if (member_count l) (wants_no_votes l) (made_no_votes l), NoVotes)
    ∷ (not (was_made l (current_round l)), Duplicate)
    ∷ (strong_ok (member_count l) (current_round l) (made_strong l), FewParents)
    ∷ []

abbrev pub propose_refusal : List ℕ → Verdict
propose_refusal l = first_no (member_questions l ++ making_questions l)

-- what a call of making ends in: its outcome, and the record
pub record Proposed : Type 0 where
  pub outcome : Outcome
  pub made : List ℕ

-- the record of an answer
abbrev pub made_in : Result (List ℕ) Refusal → List ℕ
made_in (Ok words) = words
made_in (Err why) = no_record

-- what an answer and the words at exit say: making adds to neither list
abbrev pub told_proposal : Result (List ℕ) Refusal → List ℕ → Proposed
told_proposal p l = record { outcome = record { number = number_of p; id = id_in p; leaders = 0; journal = 0; words = l }; made = made_in p }

-- the record is answered and its round marked; nothing else changes
unfoldable pub propose_vertex : List ℕ → List ℕ → Proposed
propose_vertex l digest = record {
  outcome = outcome (propose_refusal l) l (mark_round l made_at (current_round l));
  made = cond (eqb (number_of (propose_refusal l)) 0) (made_record l digest) no_record;
}
