-- Making and signing keep a state formed, and leave its lists and records as they are. Assumes nothing.
use mathlib.Core.Path.{◌≡◌, refl, sym, ap, ◌∙◌}
use mathlib.Core.Bool.{true, false, not}
use mathlib.Core.List.{List, ◌++◌}
use Prim.Native.Nat.{ℕ, ◌-◌, ◌≤◌, ◌<◌}
use native.Mathlib.Omega.{arith}
use lib.Dec.{eqb, leb}
use lib.ListN.{length, get_or, set}
use lib.Seq.{get_or-set_same, get_or-set_other}
use borrow.Author.Tests.{eqb-true, eqb-false, leb-true, le-leb, not-true}
use Rattle.record.specs.Members.{legal, leader, has, add, rounds, is_round}
use Rattle.record.specs.Refusals.{number_of, Question, first_no}
use Rattle.record.specs.Questions.{strong_ok, quorum_if}
use Rattle.record.proofs.Booleans.{and_left, and_right, and_both, or_left, cond_false}
use Rattle.record.proofs.Masks.{has_add, has_add_same}
use Rattle.record.proofs.Rounds.{round_in}
use Rattle.record.proofs.Turn.{both_yes}
use Rattle.replica.specs.Layout.{state_size, member_count_at, current_round_at, own_at, made_at, signed_at, head_size, no_votes_at, no_votes_kind, watcher}
use Rattle.replica.specs.State.{member_count, current_round, own_word, held_mask, add_member}
use Rattle.replica.specs.WellFormed.{own_ok}
use Rattle.replica.proofs.Formed.{Front, WellFormed, formed}
use Rattle.replica.proofs.Keeping.{Spare, formed_word}
use Rattle.commits.proofs.Frame.{Alike, alike_then, alike_set, loose_head}
use Rattle.ordering.proofs.Marks.{formed_note}
use Rattle.ordering.proofs.Writing.{Calm, calm_then, calm_spare, note_calm, note_alike}
use Rattle.ordering.proofs.Kept.{leaves}
use Rattle.proposing.specs.Own.{is_member, own_member, marks_round, was_made, was_signed, mark_round, member_questions}
use Rattle.proposing.specs.Making.{made_strong, wants_timeouts, wants_no_votes, made_timeouts, made_no_votes, making_questions, propose_refusal, propose_vertex}
use Rattle.proposing.specs.Signing.{signing_round, may_sign, signing_questions, sign_refusal, put_own_no_vote, sign_no_vote}
use Rattle.proposing.specs.Claims.{OwnKeepsWellFormed}

-- ---- the questions, all answered yes

-- what is known where 1, 3 and 16 are
pub record MemberKnown (l : List ℕ) : Type 0 where
  pub state : WellFormed l
  pub member : is_member l ≡ true
  pub own : 1 ≤ own_word l

pub member_passed : (l : List ℕ) (rest : List Question) → number_of (first_no (member_questions l ++ rest)) ≡ 0
    → MemberKnown l × (number_of (first_no rest) ≡ 0)
member_passed l rest e =
    let q1 = both_yes _ _ _ (eqb-false 1 0 refl) e in
    let q3 = both_yes _ _ _ (eqb-false 3 0 refl) q1.1 in
    let q16 = both_yes _ _ _ (eqb-false 16 0 refl) q3.1 in
    let some = eqb-false (own_word l) watcher (not-true _ q16.0) in
    (record { state = formed l (eqb-true (length l) state_size q1.0) q3.0; member = q16.0; own = omega (arith, some) }, q16.1)

-- of a record that is made
pub record MakingKnown (l : List ℕ) : Type 0 where
  pub state : WellFormed l
  pub member : is_member l ≡ true
  pub own : 1 ≤ own_word l
  pub round : is_round (current_round l) ≡ true
  pub timeouts : quorum_if (member_count l) (wants_timeouts l) (made_timeouts l) ≡ true
  pub no_votes : quorum_if (member_count l) (wants_no_votes l) (made_no_votes l) ≡ true
  pub new : was_made l (current_round l) ≡ false
  pub strong : strong_ok (member_count l) (current_round l) (made_strong l) ≡ true

pub making_passed : (l : List ℕ) → number_of (propose_refusal l) ≡ 0 → MakingKnown l
unfolding making_questions
making_passed l e =
    let m = member_passed l (making_questions l) e in
    let q5 = both_yes _ _ _ (eqb-false 5 0 refl) m.1 in
    let q9 = both_yes _ _ _ (eqb-false 9 0 refl) q5.1 in
    let q10 = both_yes _ _ _ (eqb-false 10 0 refl) q9.1 in
    let q12 = both_yes _ _ _ (eqb-false 12 0 refl) q10.1 in
    record {
      state = m.0.state;
      member = m.0.member;
      own = m.0.own;
      round = q5.0;
      timeouts = q9.0;
      no_votes = q10.0;
      new = not-true _ q12.0;
      strong = (both_yes _ _ _ (eqb-false 18 0 refl) q12.1).0;
    }

-- of a no-vote that is signed
pub record SigningKnown (l : List ℕ) : Type 0 where
  pub state : WellFormed l
  pub member : is_member l ≡ true
  pub own : 1 ≤ own_word l
  pub later : 2 ≤ current_round l
  pub lacking : has (held_mask l (signing_round l)) (leader (member_count l) (signing_round l)) ≡ false
  pub unmade : was_made l (current_round l) ≡ false
  pub new : was_signed l (signing_round l) ≡ false

pub signing_passed : (l : List ℕ) → number_of (sign_refusal l) ≡ 0 → SigningKnown l
unfolding may_sign
signing_passed l e =
    let m = member_passed l (signing_questions l) e in
    let q17 = both_yes _ _ _ (eqb-false 17 0 refl) m.1 in
    let rest = and_right (leb 2 (current_round l)) _ q17.0 in
    record {
      state = m.0.state;
      member = m.0.member;
      own = m.0.own;
      later = leb-true 2 (current_round l) (and_left _ _ q17.0);
      lacking = not-true _ (and_left _ _ rest);
      unmade = not-true _ (and_right (not (has (held_mask l (signing_round l)) (leader (member_count l) (signing_round l)))) _ rest);
      new = not-true _ (both_yes _ _ _ (eqb-false 12 0 refl) q17.1).0;
    }

-- ---- a round that is marked

-- it is
pub marks_here : (w r : ℕ) → 1 ≤ r → r ≤ rounds → marks_round (add w (r - 1)) r ≡ true
unfolding marks_round
marks_here w r low high = and_both (round_in r low high) (has_add_same w (r - 1))

-- and no mark is lost
pub marks_more : (w k r : ℕ) → marks_round w r ≡ true → marks_round (add w k) r ≡ true
unfolding marks_round
marks_more w k r e = and_both (and_left (is_round r) _ e) (has_add w k (r - 1) ∙ or_left _ (and_right (is_round r) _ e))

-- ---- the words

-- the own words are spare
own_spare : (j : ℕ) → own_at ≤ j → j < head_size → Spare j
own_spare j a b = record {
  head = b;
  not_members = λ e. omega arith;
  not_committed = λ e. omega arith;
  not_leaders = λ e. omega arith;
  not_journal = λ e. omega arith;
}

-- the own word is at most the member count
pub own_most : (l : List ℕ) → WellFormed l → own_word l ≤ member_count l
unfolding own_ok
own_most l S = leb-true _ _ (and_left (leb (own_word l) (member_count l)) _ S.front.own)

-- a round marked in a word
module _ (l : List ℕ) (at r : ℕ) where
  -- that word
  pub mark_here : at < length l → get_or (mark_round l at r) at 0 ≡ add (get_or l at 0) (r - 1)
  unfolding mark_round
  mark_here h = get_or-set_same l at (add (get_or l at 0) (r - 1)) 0 h

  -- any other
  pub mark_other : (j : ℕ) → (j ≡ at → ⊥) → get_or (mark_round l at r) j 0 ≡ get_or l j 0
  unfolding mark_round
  mark_other j h = get_or-set_other l at j (add (get_or l at 0) (r - 1)) 0 h

  module _ (low : own_at ≤ at) (high : at < head_size) where
    -- the lists stay
    pub mark_calm : Calm l (mark_round l at r)
    unfolding mark_round
    mark_calm = calm_spare l at (add (get_or l at 0) (r - 1)) (own_spare at low high)

    -- the records stay
    pub mark_alike : Alike l (mark_round l at r)
    unfolding mark_round
    mark_alike = alike_set l at (add (get_or l at 0) (r - 1)) (loose_head at (omega arith) high)

    -- a member's state stays formed
    formed_mark : (at ≡ own_at → ⊥) → is_member l ≡ true → WellFormed l → WellFormed (mark_round l at r)
    unfolding mark_round
    formed_mark off member S = formed_word l at (add (get_or l at 0) (r - 1)) (own_spare at low high) front S
      where
        l' : List ℕ
        l' = set l at (add (get_or l at 0) (r - 1))

        other : (j : ℕ) → (j ≡ at → ⊥) → get_or l' j 0 ≡ get_or l j 0
        other j h = get_or-set_other l at j (add (get_or l at 0) (r - 1)) 0 h

        n : member_count l' ≡ member_count l
        n = other member_count_at (λ e. omega arith)

        round : current_round l' ≡ current_round l
        round = other current_round_at (λ e. omega arith)

        own : own_word l' ≡ own_word l
        own = other own_at (λ e. off (sym e))

        front : Front l'
        front = record {
          members = ap legal n ∙ S.front.members;
          low = rw n S.front.low;
          high = rw n S.front.high;
          round_low = rw round S.front.round_low;
          round_high = rw round S.front.round_high;
          own = unfold own_ok in
              and_both (le-leb (own_word l') (member_count l') (rw (own, n) (own_most l S)))
              (cond_false _ _ (ap (λ (x : ℕ). eqb x watcher) own ∙ not-true _ member));
        }

-- the own no-vote
module _ (l : List ℕ) (r : ℕ) where
  -- the words of the head stay but for the one with the mark
  pub signed_other : (j : ℕ) → j < head_size → (j ≡ signed_at → ⊥) → get_or (put_own_no_vote l r) j 0 ≡ get_or l j 0
  unfolding put_own_no_vote add_member
  signed_other j a h = get_or-set_other (mark_round l signed_at r) (no_votes_at r) j _ 0 (λ e. omega arith) ∙ mark_other l signed_at r j h

  -- that one
  pub signed_here : signed_at < length l → get_or (put_own_no_vote l r) signed_at 0 ≡ add (get_or l signed_at 0) (r - 1)
  unfolding put_own_no_vote add_member
  signed_here h = get_or-set_other (mark_round l signed_at r) (no_votes_at r) signed_at _ 0 (λ e. omega arith) ∙ mark_here l signed_at r h

  module _ (low : 1 ≤ r) (high : r ≤ rounds) where
    -- the lists stay
    pub signed_calm : Calm l (put_own_no_vote l r)
    unfolding put_own_no_vote
    signed_calm = calm_then (mark_calm l signed_at r (omega arith) (omega arith))
        (note_calm (mark_round l signed_at r) r no_votes_kind (own_member l) low high (omega arith))

    -- the records stay
    pub signed_alike : Alike l (put_own_no_vote l r)
    unfolding put_own_no_vote
    signed_alike = alike_then (mark_alike l signed_at r (omega arith) (omega arith))
        (note_alike (mark_round l signed_at r) r no_votes_kind (own_member l) low high (omega arith) (omega arith))

    -- a member's state stays formed
    formed_signed : is_member l ≡ true → WellFormed l → WellFormed (put_own_no_vote l r)
    unfolding put_own_no_vote
    formed_signed member S = formed_note (mark_round l signed_at r) T r (own_member l) low high few no_votes_kind (omega arith) (omega arith) (λ e. omega arith)
      where
        T : WellFormed (mark_round l signed_at r)
        T = formed_mark l signed_at r (omega arith) (omega arith) (λ e. omega arith) member S

        few : own_member l < member_count (mark_round l signed_at r)
        few = rw (mark_other l signed_at r member_count_at (λ e. omega arith)) (omega (arith, own_most l S, S.front.low))

-- ---- the calls

-- after a record is made
pub formed_making : (l : List ℕ) → number_of (propose_refusal l) ≡ 0 → WellFormed (mark_round l made_at (current_round l))
formed_making l e =
    let k = making_passed l e in
    formed_mark l made_at (current_round l) (omega arith) (omega arith) (λ e. omega arith) k.member k.state

-- the round of a no-vote that is signed is one of the group's
pub signing_round_lem : (l : List ℕ) → SigningKnown l → (1 ≤ signing_round l) × (signing_round l ≤ rounds)
signing_round_lem l k = (omega (arith, k.later), omega (arith, k.state.front.round_high))

-- after a no-vote is signed
pub formed_signing : (l : List ℕ) → number_of (sign_refusal l) ≡ 0 → WellFormed (put_own_no_vote l (signing_round l))
formed_signing l e =
    let k = signing_passed l e in
    let w = signing_round_lem l k in
    formed_signed l (signing_round l) w.0 w.1 k.member k.state

-- Both calls keep a well-formed state well formed.
pub own_keeps : OwnKeepsWellFormed
unfolding propose_vertex sign_no_vote
own_keeps l size e = let S = formed l size e in (λ digest. leaves _ l _ S (formed_making l), leaves _ l _ S (formed_signing l))
