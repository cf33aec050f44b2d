-- The questions of a call in turn: what stopped it, and what is known where nothing did. Assumes nothing.
use Rattle.std.specs.Prelude.{Err}
use mathlib.Core.Path.{◌≡◌, refl, sym, ap, ◌∙◌}
use mathlib.Core.Bool.{true, false, not}
use mathlib.Core.Logic.{◌⊎◌, inl, inr, ⊎_elim}
use mathlib.Core.List.{List, [], ◌∷◌, ◌++◌}
use Prim.Native.Nat.{ℕ, ◌≤◌, ◌<◌}
use native.Mathlib.Omega.{arith}
use lib.Dec.{eqb}
use lib.ListN.{length, take, drop, length-drop}
use lib.Seq.{take_all}
use borrow.Author.Tests.{eqb-true, eqb-false, eq-eqb, ne_eqb}
use Rattle.record.specs.Below.{least}
use Rattle.record.specs.Members.{rounds, slots, legal, has, id_limit}
use Rattle.record.specs.Refusals.{Verdict, no_refusal, number_of, Question, first_no, numbered}
use Rattle.record.specs.Layout.{round_of, source_of, body_of, record_size, body_size, body_place}
use Rattle.record.specs.Questions.{signer_questions, record_questions, signer_refusal, body_refusal, record_refusal}
use Rattle.record.specs.declared.refusal.Refusal.TheVariants.{Duplicate, Conflict, MissingParent}
use Rattle.record.proofs.Booleans.{which, and_both, and_fails_left, and_fails_right}
use Rattle.record.proofs.Below.{any_intro, any_false, least_sat, least_off}
use Rattle.record.proofs.Masks.{legal_range}
use Rattle.record.proofs.Turn.{next, stop, done, both_yes, front_no, front_yes, both_fronts, numbered_law, placed}
use Rattle.record.proofs.Turn as turn
use Rattle.replica.specs.Layout.{state_size}
use Rattle.replica.specs.State.{member_count, held_mask}
use Rattle.replica.specs.Parents.{missing, parents_held}
use Rattle.replica.specs.Outcome.{unchanged, admitted, outcome}
use Rattle.replica.specs.Status.{state_questions}
use Rattle.replica.proofs.StatusLaws.{state_numbered, state_ok}
use Rattle.replica.proofs.Formed.{WellFormed, formed}
use Rattle.record.specs.Admitted.{Admitted}
use Rattle.ordering.specs.Calls.{same_body, place_questions, note_questions}

-- ---- questions asked before others: they stop the call, or the rest decide

module _ (asked rest : List Question) (why : Verdict) (e : why ≡ first_no asked) where
  stops : (number_of why ≡ 0 → ⊥) → why ≡ first_no (asked ++ rest)
  stops h = e ∙ front_no asked rest (λ d. h (ap number_of e ∙ d))

  past : numbered asked ≡ true → number_of why ≡ 0 → (r : Verdict) → r ≡ first_no rest → r ≡ first_no (asked ++ rest)
  past n h r d = d ∙ front_yes asked rest n (sym (ap number_of e) ∙ h)

-- those of the state, which come first
module _ (l : List ℕ) (why : Verdict) (e : why ≡ first_no (state_questions l)) (rest : List Question) where
  pub state_stops : (number_of why ≡ 0 → ⊥) → why ≡ first_no (state_questions l ++ rest)
  state_stops = stops (state_questions l) rest why e

  pub state_past : number_of why ≡ 0 → (r : Verdict) → r ≡ first_no rest → r ≡ first_no (state_questions l ++ rest)
  state_past = past (state_questions l) rest why e (state_numbered l)

-- and what they leave known
pub state_formed : (l : List ℕ) (why : Verdict) → why ≡ first_no (state_questions l) → number_of why ≡ 0 → WellFormed l
state_formed l why e h = let s = state_ok l (sym (ap number_of e) ∙ h) in formed l s.0 s.1

-- what is known of a record that its own questions pass, among n members; rest are the questions after them
pub record RecordKnown (n : ℕ) (rec : List ℕ) (rest : List Question) : Type 0 where
  pub admit : Admitted n (round_of rec) (source_of rec) (body_of rec)
  pub long : length rec ≡ record_size
  pub whole : take body_size (drop body_place rec) ≡ body_of rec
  pub body : number_of (body_refusal n (round_of rec) (source_of rec) (take body_size (drop body_place rec))) ≡ 0
  pub last : (s : Verdict) → s ≡ first_no rest → s ≡ first_no (record_questions n (round_of rec) (source_of rec) (body_of rec) ++ rest)

module _ (n : ℕ) (rec : List ℕ) (rest : List Question) (why : Verdict) (e : why ≡ record_refusal n rec) where
  -- they stop the call
  pub record_stops : (number_of why ≡ 0 → ⊥) → why ≡ first_no (record_questions n (round_of rec) (source_of rec) (body_of rec) ++ rest)
  record_stops = stops _ rest why e

  pub record_known : number_of why ≡ 0 → RecordKnown n rec rest
  record_known h =
      let z = sym (ap number_of e) ∙ h in
      let a = turn.admitted n (round_of rec) (source_of rec) (body_of rec) z in
      let w = take_all body_size (drop body_place rec) (omega (arith, a.size)) in
      record {
        admit = a;
        long = omega (arith, a.size, length-drop body_place rec);
        whole = w;
        body = rw w z;
        last = past _ rest why e ((numbered_law n (round_of rec) (source_of rec)).1 (body_of rec)) h;
      }

-- ---- the smallest missing parent

missing_found : (l : List ℕ) (r : ℕ) (body : List ℕ) (x : ℕ) → x ≡ least id_limit (missing l r body) → x < id_limit → parents_held l r body ≡ false
unfolding parents_held
missing_found l r body x e h = ap not (any_intro id_limit (missing l r body) (least id_limit (missing l r body)) (omega arith)
    (least_sat id_limit (missing l r body) (omega arith)))

none_lacking : (l : List ℕ) (r : ℕ) (body : List ℕ) → id_limit ≤ least id_limit (missing l r body) → parents_held l r body ≡ true
unfolding parents_held
none_lacking l r body h = ap not (any_false id_limit (missing l r body) (λ y k. least_off id_limit (missing l r body) y (omega arith)))

-- ---- questions 12 to 14 of a vertex

-- what is known of an admitted record: which answer each finding gives
pub record PlaceKnown (l : List ℕ) (n r p : ℕ) (body : List ℕ) : Type 0 where
  pub admit : Admitted n r p body
  pub few : p < slots
  pub same : has (held_mask l r) p ≡ true → same_body l r p body ≡ true → Err Duplicate ≡ first_no (place_questions l r p body)
  pub other : has (held_mask l r) p ≡ true → same_body l r p body ≡ false → Err Conflict ≡ first_no (place_questions l r p body)
  pub lacking : (x : ℕ) → has (held_mask l r) p ≡ false → x ≡ least id_limit (missing l r body) → x < id_limit
      → Err (MissingParent x) ≡ first_no (place_questions l r p body)
  pub free : has (held_mask l r) p ≡ false → id_limit ≤ least id_limit (missing l r body) → no_refusal ≡ first_no (place_questions l r p body)

pub place_known : (l : List ℕ) (n r p : ℕ) (body : List ℕ) → legal n ≡ true → number_of (body_refusal n r p body) ≡ 0 → PlaceKnown l n r p body
place_known l n r p body g e =
    let a = turn.admitted n r p body e in
    record {
      admit = a;
      few = omega (arith, a.source_low, (legal_range n g).high);
      same = λ h d. stop _ _ (ap not (and_both h d));
      other = λ h d. next _ _ (ap not (and_fails_right (has (held_mask l r) p) d)) (stop _ _ (ap not h));
      lacking = λ x h d k. ap (λ (y : ℕ). Err (MissingParent y)) d ∙ new h (stop _ _ (missing_found l r body x d k));
      free = λ h k. new h (next _ _ (none_lacking l r body k) done);
    }
  where
    new : {s : Verdict} → has (held_mask l r) p ≡ false → s ≡ first_no ((parents_held l r body, MissingParent (least id_limit (missing l r body))) ∷ [])
        → s ≡ first_no (place_questions l r p body)
    new h d = next _ _ (ap not (and_fails_left (same_body l r p body) h)) (next _ _ (ap not h) d)

-- ---- the last question of a first message, and those of a note

pub heard_before : (mask p : ℕ) → has mask p ≡ true → Err Duplicate ≡ first_no ((not (has mask p), Duplicate) ∷ [])
heard_before mask p h = stop _ _ (ap not h)

pub heard_first : (mask p : ℕ) → has mask p ≡ false → no_refusal ≡ first_no ((not (has mask p), Duplicate) ∷ [])
heard_first mask p h = next _ _ (ap not h) done

-- what is known of a note where the state's questions are passed
pub record NoteKnown (l : List ℕ) (r p mask : ℕ) : Type 0 where
  pub size : length l ≡ state_size
  pub stopped : (s : Verdict) → s ≡ signer_refusal (member_count l) r p → (number_of s ≡ 0 → ⊥) → s ≡ first_no (note_questions l r p mask)

-- and where 5 and 6 are
pub record SignerKnown (l : List ℕ) (r p mask : ℕ) : Type 0 where
  pub size : length l ≡ state_size
  pub low : 1 ≤ r
  pub high : r ≤ rounds
  pub few : p < slots
  pub again : has mask p ≡ true → Err Duplicate ≡ first_no (note_questions l r p mask)
  pub new : has mask p ≡ false → no_refusal ≡ first_no (note_questions l r p mask)

module _ (l : List ℕ) (r p mask : ℕ) (why : Verdict) (e : why ≡ first_no (state_questions l)) where
  pub note_state : (number_of why ≡ 0 → ⊥) → why ≡ first_no (note_questions l r p mask)
  note_state = state_stops l why e _

  module _ (h : number_of why ≡ 0) where
    pub note_known : NoteKnown l r p mask
    note_known = record {
      size = (state_formed l why e h).size;
      stopped = λ s d k. state_past l why e _ h s (stops (signer_questions (member_count l) r p) _ s d k);
    }

    pub signer_known : (s : Verdict) → s ≡ signer_refusal (member_count l) r p → number_of s ≡ 0 → SignerKnown l r p mask
    signer_known s d k =
        let S = state_formed l why e h in
        let w = placed (member_count l) r p (sym (ap number_of d) ∙ k) in
        let last = past (signer_questions (member_count l) r p) _ s d (numbered_law (member_count l) r p).0 k in
        record {
          size = S.size;
          low = w.round_low;
          high = w.round_high;
          few = omega (arith, w.member_low, S.front.high);
          again = λ f. state_past l why e _ h (Err Duplicate) (last (Err Duplicate) (heard_before mask p f));
          new = λ f. state_past l why e _ h no_refusal (last no_refusal (heard_first mask p f));
        }

-- ---- outcomes

pub outcome_refused : (why q : Verdict) (l after : List ℕ) → why ≡ q → (number_of why ≡ 0 → ⊥) → unchanged why l ≡ outcome q l after
unfolding outcome
outcome_refused why q l after e h = rw (← e, ne_eqb (number_of why) 0 h)

pub outcome_admitted : (why q : Verdict) (l after : List ℕ) → why ≡ q → number_of why ≡ 0 → admitted l after ≡ outcome q l after
unfolding outcome
outcome_admitted why q l after e h = rw (← e, eq-eqb (number_of why) 0 h)

-- what holds of the words before a call, and of the new ones where it is admitted, holds of those that it leaves
pub outcome_words : (P : List ℕ → Type 0) (why : Verdict) (l after : List ℕ) → P l → (number_of why ≡ 0 → P after) → P (outcome why l after).words
unfolding outcome
outcome_words P why l after p f = go (which (eqb (number_of why) 0))
  where
    go : (eqb (number_of why) 0 ≡ true) ⊎ (eqb (number_of why) 0 ≡ false) → P (outcome why l after).words
    go (inl e) = rw e (f (eqb-true _ _ e))
    go (inr e) = rw e p

-- an outcome has the number 0 only where no question stopped the call
pub outcome_zero : (why : Verdict) (l after : List ℕ) → (outcome why l after).number ≡ 0 → number_of why ≡ 0
unfolding outcome
outcome_zero why l after h = ⊎_elim (λ e. eqb-true (number_of why) 0 e) (λ e. rw e at h) (which (eqb (number_of why) 0))

-- ---- what is known of a call that nothing stopped

-- of a call with a record, questions 1 to 11 and those after them
pub record_passed : (l : List ℕ) (r p : ℕ) (body : List ℕ) (rest : List Question)
    → number_of (first_no (state_questions l ++ (record_questions (member_count l) r p body ++ rest))) ≡ 0
    → WellFormed l × Admitted (member_count l) r p body × (number_of (body_refusal (member_count l) r p body) ≡ 0) × (number_of (first_no rest) ≡ 0)
record_passed l r p body rest e =
    let a = both_fronts (state_questions l) (record_questions (member_count l) r p body ++ rest) (state_numbered l) e in
    let b = both_fronts (record_questions (member_count l) r p body) rest ((numbered_law (member_count l) r p).1 body) a.1 in
    let s = state_ok l a.0 in
    (formed l s.0 s.1, turn.admitted (member_count l) r p body b.0, b.0, b.1)

-- of a vertex: its parents are held
pub parents_passed : (l : List ℕ) (r p : ℕ) (body : List ℕ) → number_of (first_no (place_questions l r p body)) ≡ 0 → parents_held l r body ≡ true
parents_passed l r p body e =
    let q12 = both_yes _ _ _ (eqb-false 12 0 refl) e in
    let q13 = both_yes _ _ _ (eqb-false 13 0 refl) q12.1 in
    (both_yes _ _ _ (eqb-false 14 0 refl) q13.1).0

-- of a note: its round and signer
pub note_passed : (l : List ℕ) (r p mask : ℕ) → number_of (first_no (note_questions l r p mask)) ≡ 0
    → WellFormed l × (1 ≤ r) × (r ≤ rounds) × (p < member_count l)
note_passed l r p mask e =
    let a = both_fronts (state_questions l) _ (state_numbered l) e in
    let b = both_fronts (signer_questions (member_count l) r p) _ (numbered_law (member_count l) r p).0 a.1 in
    let s = state_ok l a.0 in
    let w = placed (member_count l) r p b.0 in
    (formed l s.0 s.1, w.round_low, w.round_high, w.member_low)
