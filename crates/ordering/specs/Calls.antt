-- The calls that admit something: a vertex, a first message, a timeout, a no-vote, a bundle of timeouts.
use Rattle.std.specs.Prelude.{Bool, cond, not, ◌&&◌, List, [], ◌∷◌, ◌++◌, ℕ, ◌+◌, ◌-◌, eqb, ltb, get_or}
use Rattle.std.proofs.Math.Seq.{paste}
use Rattle.record.specs.Below.{all, any, least}
use Rattle.record.specs.Members.{is_round, has, within, id_limit}
use Rattle.record.specs.Refusals.{Verdict, Question, first_no}
use Rattle.record.specs.Layout.{body_size, round_of, source_of, body_of, timeouts_of}
use Rattle.record.specs.Questions.{signer_questions, record_questions}
use Rattle.record.specs.declared.refusal.Refusal.TheVariants.{Round, MaskBits, Duplicate, Conflict, MissingParent}
use Rattle.protocol.specs.Dag.{votes}
use Rattle.replica.specs.Layout.{held_at, heard_at, votes_at, timeouts_at, cell_at, timeouts_kind, no_votes_kind, mask_at}
use Rattle.replica.specs.State.{member_count, held_mask, heard_mask, timeouts_mask, add_member, add_members, mask_of}
use Rattle.replica.specs.Parents.{missing, parents_held}
use Rattle.replica.specs.Outcome.{Outcome, outcome}
use Rattle.replica.specs.Status.{state_questions}
use Rattle.commits.specs.Commit.{raise_round, commit_all}

-- ---- a vertex

-- the cell of round r and member p has the words of this body
unfoldable pub same_body : List ℕ → ℕ → ℕ → List ℕ → Bool
same_body l r p body = all body_size (λ i. eqb (get_or l (cell_at r p + i) 0) (get_or body i 0))

-- questions 12 to 14
abbrev pub place_questions : List ℕ → ℕ → ℕ → List ℕ → List Question
place_questions l r p body =
    (not (has (held_mask l r) p && same_body l r p body), Duplicate)
    ∷ (not (has (held_mask l r) p), Conflict)
    ∷ (parents_held l r body, MissingParent (least id_limit (missing l r body)))
    ∷ []

-- questions 4 to 14, among n members
abbrev pub admission_questions : List ℕ → ℕ → ℕ → ℕ → List ℕ → List Question
admission_questions l n r p body = record_questions n r p body ++ place_questions l r p body

-- all questions of a vertex call
abbrev pub vertex_questions : List ℕ → ℕ → ℕ → List ℕ → List Question
vertex_questions l r p body = state_questions l ++ admission_questions l (member_count l) r p body

-- the vertex is written to its cell and marked held
unfoldable pub put_vertex : List ℕ → ℕ → ℕ → List ℕ → List ℕ
put_vertex l r p body = paste (add_member l (held_at r) p) (cell_at r p) body body_size

-- the timeout mask of a vertex of round r joins the timeouts of the round before; before round 1 there is none
unfoldable pub carry_timeouts : List ℕ → ℕ → ℕ → List ℕ
carry_timeouts l r mask = cond (ltb 1 r) (add_members l (timeouts_at (r - 1)) mask) l

-- it is put in its place, its timeout mask counts, and then come the round rule and the commits
unfoldable pub take_body : List ℕ → ℕ → ℕ → List ℕ → Outcome
take_body l r p body =
    outcome (first_no (vertex_questions l r p body)) l (commit_all (raise_round (carry_timeouts (put_vertex l r p body) r (timeouts_of body))))

abbrev pub take_vertex : List ℕ → List ℕ → Outcome
take_vertex l rec = take_body l (round_of rec) (source_of rec) (body_of rec)

-- ---- a first message

abbrev pub first_questions : List ℕ → ℕ → ℕ → List ℕ → List Question
first_questions l r p body = state_questions l ++ (record_questions (member_count l) r p body ++ ((not (has (heard_mask l r) p), Duplicate) ∷ []))

-- the source is heard, and in votes if the record votes for the previous round's leader, its leader 0
unfoldable pub hear : List ℕ → ℕ → ℕ → List ℕ → List ℕ
hear l r p body = cond (votes (member_count l) (r - 1) 0 body) (add_member (add_member l (heard_at r) p) (votes_at r) p) (add_member l (heard_at r) p)

unfoldable pub take_first_body : List ℕ → ℕ → ℕ → List ℕ → Outcome
take_first_body l r p body = outcome (first_no (first_questions l r p body)) l (commit_all (hear l r p body))

abbrev pub take_first_message : List ℕ → List ℕ → Outcome
take_first_message l rec = take_first_body l (round_of rec) (source_of rec) (body_of rec)

-- ---- a timeout and a no-vote

-- of a round and a signer, with the mask that the signer would join
abbrev pub note_questions : List ℕ → ℕ → ℕ → ℕ → List Question
note_questions l r p mask = state_questions l ++ (signer_questions (member_count l) r p ++ ((not (has mask p), Duplicate) ∷ []))

-- of the mask of that kind of its round
abbrev pub note_refusal : List ℕ → ℕ → ℕ → ℕ → Verdict
note_refusal l r p kind = first_no (note_questions l r p (mask_of l kind r))

-- the signer joins that mask
abbrev pub take_note : List ℕ → ℕ → ℕ → ℕ → Outcome
take_note l r p kind = outcome (note_refusal l r p kind) l (add_member l (mask_at kind r) p)

unfoldable pub take_timeout : List ℕ → ℕ → ℕ → Outcome
take_timeout l r p = outcome (note_refusal l r p timeouts_kind) l (raise_round (add_member l (timeouts_at r) p))

unfoldable pub take_no_vote : List ℕ → ℕ → ℕ → Outcome
take_no_vote l r p = take_note l r p no_votes_kind

-- ---- a bundle: the timeouts of one round by the members of a mask

-- p is in the mask, and not yet in the timeouts of round r
unfoldable pub is_new : List ℕ → ℕ → ℕ → ℕ → Bool
is_new l r mask p = has mask p && not (has (timeouts_mask l r) p)

-- 5, 7, and 12 if nobody is new
abbrev pub bundle_questions : List ℕ → ℕ → ℕ → List Question
bundle_questions l r mask =
    (is_round r, Round)
    ∷ (within (member_count l) mask, MaskBits)
    ∷ (any (member_count l) (is_new l r mask), Duplicate)
    ∷ []

abbrev pub bundle_refusal : List ℕ → ℕ → ℕ → Verdict
bundle_refusal l r mask = first_no (state_questions l ++ bundle_questions l r mask)

-- the whole mask joins the timeouts of the round, and then comes the round rule
unfoldable pub take_timeouts : List ℕ → ℕ → ℕ → Outcome
take_timeouts l r mask = outcome (bundle_refusal l r mask) l (raise_round (add_members l (timeouts_at r) mask))
