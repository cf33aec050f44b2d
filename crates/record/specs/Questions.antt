-- Questions 4 to 11 of document 01: what is asked of a record of which only the member count n is known.
use Rattle.std.specs.Prelude.{Bool, true, cond, not, ◌&&◌, List, [], ◌∷◌, ◌++◌, ℕ, ◌+◌, ◌-◌, eqb, leb, ltb, length}
use Rattle.record.specs.Below.{all}
use Rattle.record.specs.Members.{is_round, faulty, leader, has, within, meets, id_round, id_member}
use Rattle.record.specs.Refusals.{Verdict, Question, first_no}
use Rattle.record.specs.Layout.{body_size, weak_slots, round_of, source_of, body_of, strong_of, timeouts_of, no_votes_of, weak_count_of, weak_of}
use Rattle.record.specs.declared.refusal.Refusal.TheVariants.{RecordSize, Round, Source, MaskBits, Strong, Timeouts, NoVotes, Weak}

-- 7: no mask has a bit at n or above
abbrev pub all_within : ℕ → ℕ → ℕ → ℕ → Bool
all_within n strong timeouts no_votes = within n strong && (within n timeouts && within n no_votes)

unfoldable pub masks_ok : ℕ → List ℕ → Bool
masks_ok n body = all_within n (strong_of body) (timeouts_of body) (no_votes_of body)

-- 8: the strong mask is 0 in round 1, and a quorum later
unfoldable pub strong_ok : ℕ → ℕ → ℕ → Bool
strong_ok n round strong = cond (eqb round 1) (eqb strong 0) (meets n strong)

-- the round is 2 or more, and the strong mask lacks the previous leader
unfoldable pub lacks_leader : ℕ → ℕ → ℕ → Bool
lacks_leader n round strong = leb 2 round && not (has strong (leader n (round - 1)))

-- the mask is a quorum where it is wanted, and 0 where not
unfoldable pub quorum_if : ℕ → Bool → ℕ → Bool
quorum_if n wanted mask = cond wanted (meets n mask) (eqb mask 0)

-- 9: the timeout mask is wanted where the previous leader is lacking
unfoldable pub timeouts_ok : ℕ → ℕ → List ℕ → Bool
timeouts_ok n round body = quorum_if n (lacks_leader n round (strong_of body)) (timeouts_of body)

-- 10: the no-vote mask is wanted where, besides, the source leads its own round
unfoldable pub no_votes_ok : ℕ → ℕ → ℕ → List ℕ → Bool
no_votes_ok n round source body = quorum_if n (lacks_leader n round (strong_of body) && eqb source (leader n round)) (no_votes_of body)

-- a weak id is of a member below n, and of a round from 1 to the record's round less 2
unfoldable pub weak_id_ok : ℕ → ℕ → ℕ → Bool
weak_id_ok n round x = ltb (id_member x) n && (leb 1 (id_round x) && leb (id_round x + 2) round)

-- the weak id in slot i is above the one in the slot before
unfoldable pub rises : List ℕ → ℕ → Bool
rises body i = cond (eqb i 0) true (ltb (weak_of body (i - 1)) (weak_of body i))

-- slot i: a weak id that rises where it is used, 0 where not
abbrev pub used_ok : ℕ → ℕ → List ℕ → ℕ → Bool
used_ok n round body i = rises body i && weak_id_ok n round (weak_of body i)

unfoldable pub slot_ok : ℕ → ℕ → List ℕ → ℕ → Bool
slot_ok n round body i = cond (ltb i (weak_count_of body)) (used_ok n round body i) (eqb (weak_of body i) 0)

-- 11: at most f weak ids are used, and each slot is as it should be
unfoldable pub weak_ok : ℕ → ℕ → List ℕ → Bool
weak_ok n round body = leb (weak_count_of body) (faulty n) && all weak_slots (slot_ok n round body)

-- 5 and 6, of a round and of the source of a record or the signer of a note
unfoldable pub signer_questions : ℕ → ℕ → ℕ → List Question
signer_questions n round signer = (is_round round, Round) ∷ (ltb signer n, Source) ∷ []

-- The questions in turn. Question 4 is asked of the body: a record has its size exactly if its body has.
unfoldable pub record_questions : ℕ → ℕ → ℕ → List ℕ → List Question
record_questions n round source body =
    (eqb (length body) body_size, RecordSize)
    ∷ (signer_questions n round source
    ++ ((masks_ok n body, MaskBits)
    ∷ (strong_ok n round (strong_of body), Strong)
    ∷ (timeouts_ok n round body, Timeouts)
    ∷ (no_votes_ok n round source body, NoVotes)
    ∷ (weak_ok n round body, Weak)
    ∷ []))

-- the verdict on a round and a signer, on a body whose round and source are given, and of a whole record
abbrev pub signer_refusal : ℕ → ℕ → ℕ → Verdict
signer_refusal n round signer = first_no (signer_questions n round signer)

abbrev pub body_refusal : ℕ → ℕ → ℕ → List ℕ → Verdict
body_refusal n round source body = first_no (record_questions n round source body)

abbrev pub record_refusal : ℕ → List ℕ → Verdict
record_refusal n rec = body_refusal n (round_of rec) (source_of rec) (body_of rec)
