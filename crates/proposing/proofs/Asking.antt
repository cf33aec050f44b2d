-- The questions of making and signing in turn, and what is known where they are passed. Assumes nothing.
use Rattle.std.specs.Prelude.{Result, Ok, Err}
use mathlib.Core.Path.{◌≡◌, refl, sym, ap, ap₂, ◌∙◌}
use mathlib.Core.Bool.{Bool, true, false, not, ◌&&◌}
use mathlib.Core.List.{List, [], ◌∷◌}
use Prim.Native.Nat.{ℕ, ◌+◌, ◌-◌, ◌≤◌, ◌<◌}
use native.Mathlib.Omega.{arith}
use lib.Count.{ones}
use lib.Dec.{leb}
use lib.ListN.{length, drop}
use borrow.Author.Tests.{eq-eqb, ne_eqb, leb-true, le-leb, lt-leb}
use Rattle.record.specs.Members.{is_round, quorum, leader, has, meets, rounds, slots}
use Rattle.record.specs.Refusals.{Verdict, no_refusal, number_of, first_no, numbered}
use Rattle.record.specs.Questions.{quorum_if}
use Rattle.record.specs.Handed.{QuorumOf}
use Rattle.record.specs.declared.refusal.Refusal.{Refusal}
use Rattle.record.specs.declared.refusal.Refusal.TheVariants.{Watcher, Round, Timeouts, NoVotes, Duplicate, FewParents, Signing}
use Rattle.record.proofs.Booleans.{and_left, and_fails_left, and_fails_right, cond_true, cond_false, passed, failed}
use Rattle.record.proofs.Rounds.{round_in, round_range}
use Rattle.record.proofs.Turn.{was_err, next, stop, done, front_no, front_yes}
use Rattle.record.proofs.Handed.{meets_law, wanted_law}
use Rattle.record.proofs.Composed.{strong_law}
use Rattle.replica.specs.Layout.{state_size, watcher, leader_count_at, journal_count_at, made_at, signed_at, masks_at, no_votes_kind}
use Rattle.replica.specs.State.{member_count, current_round, own_word, made_rounds, signed_rounds, held_mask, timeouts_mask, no_votes_mask, add_member}
use Rattle.replica.specs.Outcome.{Outcome, told, unchanged, outcome}
use Rattle.replica.specs.Status.{state_questions}
use Rattle.replica.specs.declared.answer.Added.{Added}
use Rattle.replica.proofs.Formed.{well_formed_lem}
use Rattle.ordering.proofs.Counts.{no_growth}
use Rattle.ordering.proofs.Turns.{state_stops, state_past, state_formed, outcome_refused, outcome_admitted}
use Rattle.ordering.proofs.Writing.{Calm}
use Rattle.ordering.proofs.Taking.{told_refused}
use Rattle.proposing.specs.Own.{is_member, marks_round, mark_round, member_questions}
use Rattle.proposing.specs.Making.{made_strong, wants_timeouts, wants_no_votes, made_timeouts, made_no_votes, made_record}
use Rattle.proposing.specs.Making.{no_record, making_questions, propose_refusal, Proposed, told_proposal, propose_vertex}
use Rattle.proposing.specs.Signing.{signing_round, may_sign, signing_questions, sign_refusal, put_own_no_vote, sign_no_vote}
use Rattle.proposing.specs.Inner.{Opened, Current, draft_of, enough_in}
use Rattle.proposing.specs.declared.making.Draft.{Draft}
use Rattle.proposing.proofs.Laws.{wanted_enough}
use Rattle.proposing.proofs.Kept.{MemberKnown, member_passed, making_passed, signing_passed, signing_round_lem, mark_calm, signed_calm, own_most}

-- ---- questions 1, 3 and 16

member_numbered : (l : List ℕ) → numbered (member_questions l) ≡ true
unfolding numbered
member_numbered l = refl

module _ (l : List ℕ) (why : Verdict) (e : why ≡ first_no (state_questions l)) where
  pub member_state : (number_of why ≡ 0 → ⊥) → why ≡ first_no (member_questions l)
  member_state = state_stops l why e _

  module _ (h : number_of why ≡ 0) where
    past_state : {r : Verdict} → r ≡ first_no ((is_member l, Watcher) ∷ []) → r ≡ first_no (member_questions l)
    past_state d = state_past l why e _ h _ d

    pub member_size : length l ≡ state_size
    member_size = (state_formed l why e h).size

    pub member_watcher : own_word l ≡ watcher → Err Watcher ≡ first_no (member_questions l)
    member_watcher d = past_state (stop _ _ (ap not (eq-eqb _ _ d)))

    pub member_own : (own_word l ≡ watcher → ⊥) → no_refusal ≡ first_no (member_questions l)
    member_own d = past_state (next _ _ (ap not (ne_eqb _ _ d)) done)

-- what is known where a refusal says that they are passed
pub member_known : (l : List ℕ) (why : Verdict) → why ≡ first_no (member_questions l) → number_of why ≡ 0 → MemberKnown l
member_known l why e h = (member_passed l [] (sym (ap number_of e) ∙ h)).0

pub opened : (l : List ℕ) → MemberKnown l → Opened l (member_count l) (current_round l)
opened l k = record {
  size = k.state.size;
  formed = well_formed_lem l k.state;
  members = refl;
  some = omega (arith, k.state.front.low);
  few = k.state.front.high;
  current = refl;
  low = k.state.front.round_low;
  last = k.state.front.round_high;
  own = k.own;
}

pub current : (l : List ℕ) → MemberKnown l → current_round l ≤ rounds → Current l (member_count l) (current_round l)
current l k h = record { opened = opened l k; high = h }

-- ---- questions 9, 10, 12 and 18

module _ (l : List ℕ) (n round : ℕ) (d : Draft) (C : Current l n round) (ed : d ≡ draft_of l) where
  -- the questions
  abbrev asked : Verdict
  asked = first_no (drop 1 (making_questions l))

  module _ (q : ℕ) (g : QuorumOf n q) (a : Bool) (ha : a ≡ enough_in q d.timeouts) where
    g' : QuorumOf (member_count l) q
    g' = g ∙ ap quorum C.opened.members

    ea : a ≡ quorum_if (member_count l) (wants_timeouts l) (made_timeouts l)
    ea = unfold made_timeouts in ha ∙ ap (λ (x : Draft). enough_in q x.timeouts) ed
        ∙ wanted_enough q (wants_timeouts l) (timeouts_mask l (current_round l - 1)) ∙ wanted_law (member_count l) q _ _ g'

    pub draft_timeouts : not a ≡ true → Err Timeouts ≡ asked
    unfolding making_questions
    draft_timeouts h = stop _ _ (failed ea h)

    module _ (pa : not a ≡ false) (b : Bool) (hb : b ≡ enough_in q d.no_votes) where
      eb : b ≡ quorum_if (member_count l) (wants_no_votes l) (made_no_votes l)
      eb = unfold made_no_votes in hb ∙ ap (λ (x : Draft). enough_in q x.no_votes) ed
          ∙ wanted_enough q (wants_no_votes l) (no_votes_mask l (current_round l - 1)) ∙ wanted_law (member_count l) q _ _ g'

      pub draft_no_votes : not b ≡ true → Err NoVotes ≡ asked
      unfolding making_questions
      draft_no_votes h = next _ _ (passed ea pa) (stop _ _ (failed eb h))

      module _ (pb : not b ≡ false) (m : Bool) (em : m ≡ marks_round (made_rounds l) round) where
        pub draft_made : m ≡ true → Err Duplicate ≡ asked
        unfolding making_questions
        draft_made h =
            next _ _ (passed ea pa) (next _ _ (passed eb pb)
            (stop _ _ (ap not (rw C.opened.current at (sym em ∙ h)))))

        module _ (pm : m ≡ false) where
          last_one : {r : Verdict} → r ≡ first_no (drop 4 (making_questions l)) → r ≡ asked
          unfolding making_questions
          last_one f =
              next _ _ (passed ea pa) (next _ _ (passed eb pb)
              (next _ _ (ap not (rw C.opened.current at (sym em ∙ pm))) f))

          pub draft_first : round ≡ 1 → no_refusal ≡ asked
          unfolding making_questions made_strong
          draft_first h =
              let one : current_round l ≡ 1 = sym C.opened.current ∙ h in
              last_one (next _ _ (rw one (strong_law (member_count l)).0) done)

          module _ (later : round ≡ 1 → ⊥) (z : Bool) (hz : z ≡ leb q (ones d.strong)) where
            ez : z ≡ meets (member_count l) (made_strong l)
            ez = hz ∙ ap (λ (x : Draft). leb q (ones x.strong)) ed ∙ meets_law (member_count l) q _ g'

            pub draft_few : not z ≡ true → Err FewParents ≡ asked
            unfolding making_questions
            draft_few h = last_one (stop _ _ ((strong_law (member_count l)).1 (current_round l) (made_strong l) (λ x. later (C.opened.current ∙ x))
                ∙ (failed ez h)))

            pub draft_done : not z ≡ false → no_refusal ≡ asked
            unfolding making_questions
            draft_done h = last_one (next _ _ ((strong_law (member_count l)).1 (current_round l) (made_strong l) (λ x. later (C.opened.current ∙ x))
                ∙ (passed ez h)) done)

-- ---- making

-- the words afterwards differ in no count
still : (l m : List ℕ) → Calm l m → unchanged no_refusal m ≡ outcome no_refusal l m
still l m C =
    no_growth l m (C.head leader_count_at (omega arith) (λ e. omega arith)) (C.head journal_count_at (omega arith) (λ e. omega arith))
    ∙ outcome_admitted no_refusal no_refusal l m refl refl

abbrev ended : Outcome → List ℕ → Proposed
ended o rec = record { outcome = o; made = rec }

-- question 5 of the current round, and those behind it
module _ (l : List ℕ) where
  pub making_late : rounds < current_round l → Err Round ≡ first_no (making_questions l)
  making_late k = unfold making_questions in stop _ _ none
    where
      none : is_round (current_round l) ≡ false
      none = unfold is_round in and_fails_right (leb 1 (current_round l)) (lt-leb (current_round l) rounds k)

  pub making_asked : 1 ≤ current_round l → current_round l ≤ rounds → (r : Verdict) → r ≡ first_no (drop 1 (making_questions l))
      → r ≡ first_no (making_questions l)
  making_asked h k r d = unfold making_questions in next _ _ (round_in (current_round l) h k) (unfold making_questions in d)

-- all questions
module _ (l : List ℕ) (why : Verdict) (e : why ≡ first_no (member_questions l)) where
  pub propose_stopped : (number_of why ≡ 0 → ⊥) → why ≡ propose_refusal l
  propose_stopped h = e ∙ front_no (member_questions l) (making_questions l) (λ d. h (ap number_of e ∙ d))

  pub propose_past : number_of why ≡ 0 → {r : Verdict} → r ≡ first_no (making_questions l) → r ≡ propose_refusal l
  propose_past h d = d ∙ front_yes (member_questions l) (making_questions l) (member_numbered l) (sym (ap number_of e) ∙ h)

-- the call
module _ (l digest : List ℕ) (why : Verdict) (e : why ≡ propose_refusal l) where
  pub propose_refused : (w : Refusal) → why ≡ Err w → (p : Result (List ℕ) Refusal) → p ≡ Err w → told_proposal p l ≡ propose_vertex l digest
  unfolding propose_vertex
  propose_refused w h p d =
      ap (λ (y : Result (List ℕ) Refusal). told_proposal y l) d
      ∙ ap₂ ended (ap (λ (v : Verdict). unchanged v l) (sym h)
      ∙ outcome_refused why (propose_refusal l) l (mark_round l made_at (current_round l)) e (was_err h))
      (sym (cond_false (made_record l digest) no_record (ne_eqb (number_of (propose_refusal l)) 0 (λ z. was_err h (ap number_of e ∙ z)))))

  module _ (h : number_of why ≡ 0) where
    none : number_of (propose_refusal l) ≡ 0
    none = sym (ap number_of e) ∙ h

    pub propose_current : Current l (member_count l) (current_round l)
    propose_current =
        let k = making_passed l none in
        current l (record { state = k.state; member = k.member; own = k.own }) (round_range (current_round l) k.round).1

    pub propose_done : (rec : List ℕ) → rec ≡ made_record l digest → (m : List ℕ) → m ≡ mark_round l made_at (current_round l)
        → told_proposal (Ok rec) m ≡ propose_vertex l digest
    unfolding propose_vertex
    propose_done rec er m em =
        ap₂ ended
        (ap (unchanged no_refusal) em
        ∙ still l (mark_round l made_at (current_round l)) (mark_calm l made_at (current_round l) (omega arith) (omega arith))
        ∙ sym (outcome_admitted no_refusal no_refusal l _ refl refl) ∙ outcome_admitted (propose_refusal l) (propose_refusal l) l _ refl none)
        (er ∙ sym (cond_true (made_record l digest) no_record (eq-eqb (number_of (propose_refusal l)) 0 none)))

-- ---- signing

-- question 17
module _ (l : List ℕ) (n round : ℕ) (O : Opened l n round) where
  pub may_first : round < 2 → false ≡ may_sign l
  unfolding may_sign
  may_first h = sym (and_fails_left _ (lt-leb 2 (current_round l) (rw O.current at h)))

  module _ (h : 2 ≤ round) (b : Bool) (eb : b ≡ has (held_mask l (round - 1)) (leader n (round - 1))) where
    pub may_held : b ≡ true → false ≡ may_sign l
    unfolding may_sign
    may_held p = sym (and_fails_right (leb 2 (current_round l)) (and_fails_left _ (ap not (rw (O.current, O.members) at (sym eb ∙ p)))))

    pub may_made : b ≡ false → (m : Bool) → m ≡ marks_round (made_rounds l) round → not m ≡ may_sign l
    unfolding may_sign
    may_made p m em =
        ap not (rw O.current at em)
        ∙ sym (ap₂ (λ (x y : Bool). x && (y && not (marks_round (made_rounds l) (current_round l)))) (le-leb 2 (current_round l) (rw O.current at h))
        (ap not (rw (O.current, O.members) at (sym eb ∙ p))))

-- all questions
module _ (l : List ℕ) (why : Verdict) (e : why ≡ first_no (member_questions l)) where
  pub sign_stopped : (number_of why ≡ 0 → ⊥) → why ≡ sign_refusal l
  sign_stopped h = e ∙ front_no (member_questions l) (signing_questions l) (λ d. h (ap number_of e ∙ d))

  module _ (h : number_of why ≡ 0) (b : Bool) (eb : b ≡ may_sign l) where
    past : {r : Verdict} → r ≡ first_no (signing_questions l) → r ≡ sign_refusal l
    past d = d ∙ front_yes (member_questions l) (signing_questions l) (member_numbered l) (sym (ap number_of e) ∙ h)

    pub sign_not : not b ≡ true → Err Signing ≡ sign_refusal l
    sign_not k = past (stop _ _ (failed eb k))

    -- then the current round is not the first
    pub sign_later : not b ≡ false → 2 ≤ current_round l
    unfolding may_sign
    sign_later k = leb-true 2 (current_round l) (and_left (leb 2 (current_round l)) _ (passed eb k))

    module _ (pb : not b ≡ false) (m : Bool) (em : m ≡ marks_round (signed_rounds l) (current_round l - 1)) where
      pub sign_again : m ≡ true → Err Duplicate ≡ sign_refusal l
      sign_again k = past (next _ _ (passed eb pb) (stop _ _ (ap not (sym em ∙ k))))

      pub sign_new : m ≡ false → no_refusal ≡ sign_refusal l
      sign_new k = past (next _ _ (passed eb pb) (next _ _ (ap not (sym em ∙ k)) done))

-- what each step may use of a no-vote that is signed
pub record SignTaken (l : List ℕ) : Type 0 where
  pub size : length l ≡ state_size
  pub low : 2 ≤ current_round l
  pub high : current_round l ≤ rounds + 1
  pub own : 1 ≤ own_word l
  pub few : own_word l ≤ slots
  pub marked : (m : List ℕ) → m ≡ mark_round l signed_at (current_round l - 1) → length m ≡ state_size
  pub done : (m o : List ℕ) (at : ℕ) → m ≡ mark_round l signed_at (current_round l - 1) → at ≡ masks_at (current_round l - 1)
      → o ≡ add_member m (at + no_votes_kind) (own_word l - 1) → unchanged no_refusal o ≡ sign_no_vote l

-- the call
module _ (l : List ℕ) (why : Verdict) (e : why ≡ sign_refusal l) where
  pub sign_refused : (w : Refusal) → why ≡ Err w → (a : Result Added Refusal) → a ≡ Err w → told a l ≡ sign_no_vote l
  unfolding sign_no_vote
  sign_refused w h a d =
      told_refused l a why w h d ∙ outcome_refused why (sign_refusal l) l (put_own_no_vote l (signing_round l)) e (was_err h)

  pub sign_taken : number_of why ≡ 0 → SignTaken l
  unfolding sign_no_vote put_own_no_vote
  sign_taken h =
      let z : number_of (sign_refusal l) ≡ 0 = sym (ap number_of e) ∙ h in
      let k = signing_passed l z in
      let w = signing_round_lem l k in
      let C = mark_calm l signed_at (current_round l - 1) (omega arith) (omega arith) in
      record {
        size = k.state.size;
        low = k.later;
        high = k.state.front.round_high;
        own = k.own;
        few = omega (arith, own_most l k.state, k.state.front.high);
        marked = λ m d. ap length d ∙ C.size ∙ k.state.size;
        done = λ m o at dm da dn.
            ap (unchanged no_refusal) (dn ∙ ap₂ (λ (x : List ℕ) (y : ℕ). add_member x (y + no_votes_kind) (own_word l - 1)) dm da)
            ∙ still l (put_own_no_vote l (signing_round l)) (signed_calm l (signing_round l) w.0 w.1)
            ∙ sym (outcome_admitted no_refusal no_refusal l _ refl refl) ∙ outcome_admitted (sign_refusal l) (sign_refusal l) l _ refl z;
      }
