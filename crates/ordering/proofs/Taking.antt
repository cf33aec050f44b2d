-- The calls put together: refused with the words as they were, or admitted step by step. Assumes nothing.
use Rattle.std.specs.Prelude.{Result, Err}
use mathlib.Core.Path.{◌≡◌, refl, sym, ap, ◌∙◌}
use mathlib.Core.Bool.{true}
use mathlib.Core.List.{List, [], ◌∷◌}
use Prim.Native.Nat.{ℕ, ◌+◌, ◌≤◌, ◌<◌}
use native.Mathlib.Omega.{arith}
use lib.ListN.{length, take, drop, get_or, length-drop}
use lib.Seq.{take_all, get_or-drop}
use Rattle.record.specs.Refusals.{Verdict, number_of, first_no}
use Rattle.record.specs.Layout.{round_of, source_of, body_of, strong_of, timeouts_of, record_size, body_size, body_place, strong_place}
use Rattle.record.specs.Layout.{timeouts_place}
use Rattle.record.specs.Admitted.{Admitted}
use Rattle.record.specs.declared.refusal.Refusal.{Refusal}
use Rattle.record.specs.Members.{rounds, slots}
use Rattle.record.proofs.Turn.{was_err}
use Rattle.replica.specs.Layout.{state_size, masks_at, timeouts_at, kinds, leader_count_at, journal_count_at, timeouts_kind}
use Rattle.replica.specs.State.{member_count, add_member, add_members}
use Rattle.replica.specs.WellFormed.{well_formed}
use Rattle.replica.specs.Outcome.{Outcome, told, unchanged, admitted}
use Rattle.replica.specs.declared.answer.Added.{Added}
use Rattle.replica.proofs.Formed.{WellFormed, well_formed_lem}
use Rattle.commits.specs.Commit.{raise_round, commit_all}
use Rattle.ordering.specs.Calls.{vertex_questions, put_vertex, carry_timeouts, take_body, take_vertex, first_questions, hear}
use Rattle.ordering.specs.Calls.{take_first_body, take_first_message, note_refusal, take_note, take_timeout, bundle_refusal, take_timeouts}
use Rattle.ordering.specs.Inner.{Hearing}
use Rattle.ordering.proofs.Turns.{outcome_zero, outcome_refused, outcome_admitted, record_passed, note_passed}
use Rattle.ordering.proofs.Heard.{hear_body}
use Rattle.ordering.proofs.Counts.{same_growth, no_growth}
use Rattle.ordering.proofs.Writing.{Calm, calm_then, raise_calm, hear_calm, note_calm, join_calm}
use Rattle.ordering.proofs.Marks.{formed_raise, formed_hear, formed_joined}
use Rattle.ordering.proofs.Bundled.{bundle_passed}
use Rattle.ordering.proofs.Carried.{written, VertexWritten, vertex_written}

-- an answer with a refusal, where the words stay
pub told_refused : (l : List ℕ) (a : Result Added Refusal) (v : Verdict) (why : Refusal) → v ≡ Err why → a ≡ Err why → told a l ≡ unchanged v l
told_refused l a v why d e = ap (λ (x : Result Added Refusal). told x l) e ∙ sym (ap (λ (x : Verdict). unchanged x l) d)

-- the counts after a calm change
calm_growth : {l m : List ℕ} → Calm l m → (after : List ℕ) → admitted m after ≡ admitted l after
calm_growth {l} {m} C after = same_growth l m after (C.head leader_count_at (omega arith) (λ e. omega arith))
    (C.head journal_count_at (omega arith) (λ e. omega arith))

pub calm_still : {l m : List ℕ} → Calm l m → record { number = 0; id = 0; leaders = 0; journal = 0; words = m } ≡ admitted l m
calm_still {l} {m} C = no_growth l m (C.head leader_count_at (omega arith) (λ e. omega arith)) (C.head journal_count_at (omega arith) (λ e. omega arith))

calm_count : {l m : List ℕ} → Calm l m → member_count l ≡ member_count m
calm_count C = sym (C.head 0 (omega arith) (λ e. omega arith))

-- ---- what a step of the code asks

-- a state that is well formed, and as long as a state
pub record Ready (n : ℕ) (l : List ℕ) : Type 0 where
  pub size : length l ≡ state_size
  pub formed : well_formed l ≡ true
  pub members : n ≡ member_count l
  pub some : 0 < n

ready : (n : ℕ) (l : List ℕ) → WellFormed l → n ≡ member_count l → Ready n l
ready n l S e = record { size = S.size; formed = well_formed_lem l S; members = e; some = omega (arith, S.front.low) }

-- ---- a vertex

-- the words m once the vertex is put in its place, and r after its timeout mask and the round rule, as the code reads its record
abbrev Put : List ℕ → List ℕ → List ℕ → Type 0
Put l rec m = m ≡ put_vertex l (round_of rec) (source_of rec) (take body_size (drop body_place rec))

abbrev Advanced : List ℕ → List ℕ → List ℕ → Type 0
Advanced rec m r = r ≡ raise_round (carry_timeouts m (round_of rec) (get_or rec (body_place + timeouts_place) 0))

-- what each later step may use of a vertex that no question stopped
pub record VertexTaken (l rec : List ℕ) : Type 0 where
  pub formed : WellFormed l
  pub admit : Admitted (member_count l) (round_of rec) (source_of rec) (body_of rec)
  pub long : length rec ≡ record_size
  pub few : source_of rec < slots
  pub part : length (take body_size (drop body_place rec)) ≡ body_size
  pub put : (m : List ℕ) → Put l rec m → Ready (member_count l) m
  pub advanced : (m r : List ℕ) → Put l rec m → Advanced rec m r → Ready (member_count l) r
  pub done : (m r : List ℕ) (o : Outcome) → Put l rec m → Advanced rec m r → o ≡ admitted r (commit_all r) → o ≡ take_vertex l rec

module _ (l rec : List ℕ) (why : Verdict) (e : why ≡ first_no (vertex_questions l (round_of rec) (source_of rec) (body_of rec))) where
  pub vertex_refused : (w : Refusal) → why ≡ Err w → (a : Result Added Refusal) → a ≡ Err w → told a l ≡ take_vertex l rec
  unfolding take_body
  vertex_refused w h a d = told_refused l a why w h d ∙ outcome_refused why _ l _ e (was_err h)

  module _ (h : number_of why ≡ 0) where
    passed : VertexWritten l (round_of rec) (source_of rec) (body_of rec)
    passed = vertex_written l (round_of rec) (source_of rec) (body_of rec) (sym (ap number_of e) ∙ h)

    abbrev after : List ℕ
    after = written l (round_of rec) (source_of rec) (body_of rec)

    -- the code's reads of the record
    whole : take body_size (drop body_place rec) ≡ body_of rec
    whole = take_all body_size (drop body_place rec) (omega (arith, passed.admit.size))

    mask : get_or rec (body_place + timeouts_place) 0 ≡ timeouts_of (body_of rec)
    mask = unfold timeouts_of in sym (get_or-drop body_place rec timeouts_place 0)

    calm_raised : Calm l (raise_round after)
    calm_raised = calm_then passed.calm (raise_calm after)

    done : take_vertex l rec ≡ admitted (raise_round after) (commit_all (raise_round after))
    unfolding take_body
    done = sym (calm_growth calm_raised _ ∙ outcome_admitted why _ l _ e h)

    pub vertex_taken_lem : VertexTaken l rec
    vertex_taken_lem = record {
      formed = passed.first;
      admit = passed.admit;
      long = omega (arith, passed.admit.size, length-drop body_place rec);
      few = passed.few;
      part = rw whole passed.admit.size;
      put = λ m d. rw (d, whole) (ready _ _ passed.put (calm_count passed.put_calm));
      advanced = λ m r d f. rw (f, mask, d, whole) (ready _ _ (formed_raise after passed.formed) (calm_count calm_raised));
      done = λ m r o d f g. g ∙ rw (f, mask, d, whole) (sym done);
    }

-- ---- a first message

-- what each later step may use of a first message that no question stopped
pub record FirstTaken (l rec : List ℕ) : Type 0 where
  pub formed : WellFormed l
  pub admit : Admitted (member_count l) (round_of rec) (source_of rec) (body_of rec)
  pub long : length rec ≡ record_size
  pub hearing : Hearing l (member_count l) (round_of rec) (source_of rec) (get_or rec (body_place + strong_place) 0)
  pub heard : (m : List ℕ) → m ≡ hear l (round_of rec) (source_of rec) (get_or rec (body_place + strong_place) 0 ∷ []) → Ready (member_count l) m
  pub done : (m : List ℕ) (o : Outcome) → m ≡ hear l (round_of rec) (source_of rec) (get_or rec (body_place + strong_place) 0 ∷ [])
      → o ≡ admitted m (commit_all m)
      → o ≡ take_first_message l rec

module _ (l rec : List ℕ) (why : Verdict) (e : why ≡ first_no (first_questions l (round_of rec) (source_of rec) (body_of rec))) where
  pub first_refused : (w : Refusal) → why ≡ Err w → (a : Result Added Refusal) → a ≡ Err w → told a l ≡ take_first_message l rec
  unfolding take_first_body
  first_refused w h a d = told_refused l a why w h d ∙ outcome_refused why _ l _ e (was_err h)

  module _ (h : number_of why ≡ 0) where
    first_passed : WellFormed l × Admitted (member_count l) (round_of rec) (source_of rec) (body_of rec)
    first_passed = let w = record_passed l (round_of rec) (source_of rec) (body_of rec) _ (sym (ap number_of e) ∙ h) in (w.0, w.1)

    calm_heard : Calm l (hear l (round_of rec) (source_of rec) (body_of rec))
    calm_heard = hear_calm l (round_of rec) (source_of rec) (body_of rec) first_passed.0.size first_passed.1.round_low first_passed.1.round_high

    first_done : admitted (hear l (round_of rec) (source_of rec) (body_of rec)) (commit_all (hear l (round_of rec) (source_of rec) (body_of rec)))
        ≡ take_first_message l rec
    unfolding take_first_body
    first_done = calm_growth calm_heard _ ∙ outcome_admitted why _ l _ e h

    pub first_taken : FirstTaken l rec
    unfolding strong_of
    first_taken = record {
      formed = first_passed.0;
      admit = first_passed.1;
      long = omega (arith, first_passed.1.size, length-drop body_place rec);
      hearing = record {
        size = first_passed.0.size;
        members = refl;
        some = omega (arith, first_passed.0.front.low);
        few = first_passed.0.front.high;
        low = first_passed.1.round_low;
        high = first_passed.1.round_high;
        source = omega (arith, first_passed.1.source_low, first_passed.0.front.high);
        first = λ z. sym (get_or-drop body_place rec strong_place 0) ∙ first_passed.1.strong_first z;
      };
      heard = λ m d. rw (d, hear_body l (round_of rec) (source_of rec) rec)
          (ready _ _ (formed_hear l first_passed.0 (round_of rec) (source_of rec) (body_of rec) first_passed.1) (calm_count calm_heard));
      done = λ m o d f. f ∙ rw (d, hear_body l (round_of rec) (source_of rec) rec) first_done;
    }

-- ---- a timeout and a no-vote: the signer joins the i-th mask of the round

-- what each later step may use of a note that no question stopped
pub record NoteTaken (l : List ℕ) (r p i : ℕ) : Type 0 where
  pub formed : WellFormed l
  pub low : 1 ≤ r
  pub high : r ≤ rounds
  pub few : p < slots
  pub calm : Calm l (add_member l (masks_at r + i) p)
  pub done : (at : ℕ) (m : List ℕ) → at ≡ masks_at r → m ≡ add_member l (at + i) p
      → record { number = 0; id = 0; leaders = 0; journal = 0; words = m } ≡ take_note l r p i

module _ (l : List ℕ) (r p i : ℕ) (why : Verdict) (e : why ≡ note_refusal l r p i) where
  pub note_refused : (w : Refusal) → why ≡ Err w → (a : Result Added Refusal) → a ≡ Err w → told a l ≡ take_note l r p i
  note_refused w h a d = told_refused l a why w h d ∙ outcome_refused why _ l _ e (was_err h)

  pub note_taken : i < kinds → number_of why ≡ 0 → NoteTaken l r p i
  note_taken to h =
      let w = note_passed l r p _ (sym (ap number_of e) ∙ h) in
      let C = note_calm l r i p w.1 w.2 to in
      record {
        formed = w.0;
        low = w.1;
        high = w.2;
        few = omega (arith, w.3, w.0.front.high);
        calm = C;
        done = λ at m a d. rw (d, a) (calm_still C ∙ outcome_admitted why _ l _ e h);
      }

-- ---- a timeout: the round rule after a note that was admitted

-- what the round rule may use of the words m that the note left
pub record TimeoutTaken (l : List ℕ) (r p : ℕ) (a : Result Added Refusal) (m : List ℕ) : Type 0 where
  pub size : length m ≡ state_size
  pub some : 0 < member_count m
  pub done : (o : List ℕ) → o ≡ raise_round m → told a o ≡ take_timeout l r p

module _ (l : List ℕ) (r p : ℕ) (a : Result Added Refusal) (m : List ℕ) (e : told a m ≡ take_note l r p timeouts_kind) where
  why : Verdict
  why = note_refusal l r p timeouts_kind

  noted : List ℕ
  noted = add_member l (timeouts_at r) p

  pub timeout_refused : (w : Refusal) → a ≡ Err w → (b : Result Added Refusal) → b ≡ Err w → told b m ≡ take_timeout l r p
  unfolding take_timeout why
  timeout_refused w h b d = ap (λ (x : Result Added Refusal). told x m) (d ∙ sym h) ∙ e ∙ sym (outcome_refused why why l _ refl stopped)
      ∙ outcome_refused why why l _ refl stopped
    where
      stopped : number_of why ≡ 0 → ⊥
      stopped z = was_err h (ap (λ (o : Outcome). o.number) (e ∙ sym (outcome_admitted why why l _ refl z)))

  pub timeout_taken : number_of a ≡ 0 → TimeoutTaken l r p a m
  unfolding take_timeout why noted
  timeout_taken z =
      let h = outcome_zero why l noted (ap (λ (o : Outcome). o.number) (sym e) ∙ z) in
      let k = note_taken l r p timeouts_kind why refl (omega arith) h in
      let d = e ∙ sym (k.done _ noted refl refl) in
      let w = ap (λ (o : Outcome). o.words) d in
      record {
        size = rw w (k.calm.size ∙ k.formed.size);
        some = rw w (omega (arith, calm_count k.calm, k.formed.front.low));
        done = λ o g. rw g (ap
            (λ (t : Outcome). record { number = t.number; id = t.id; leaders = t.leaders; journal = t.journal; words = raise_round t.words }) d
            ∙ calm_still (calm_then k.calm (raise_calm noted)) ∙ outcome_admitted why why l _ refl h);
      }

-- ---- a bundle of timeouts

-- what each later step may use of a bundle that no question stopped
pub record BundleTaken (l : List ℕ) (r mask : ℕ) : Type 0 where
  pub formed : WellFormed l
  pub low : 1 ≤ r
  pub high : r ≤ rounds
  pub joined : (at : ℕ) (m : List ℕ) → at ≡ masks_at r → m ≡ add_members l (at + timeouts_kind) mask → Ready (member_count m) m
  pub done : (at : ℕ) (m o : List ℕ) → at ≡ masks_at r → m ≡ add_members l (at + timeouts_kind) mask → o ≡ raise_round m
      → record { number = 0; id = 0; leaders = 0; journal = 0; words = o } ≡ take_timeouts l r mask

module _ (l : List ℕ) (r mask : ℕ) (why : Verdict) (e : why ≡ bundle_refusal l r mask) where
  pub bundle_refused : (w : Refusal) → why ≡ Err w → (a : Result Added Refusal) → a ≡ Err w → told a l ≡ take_timeouts l r mask
  unfolding take_timeouts
  bundle_refused w h a d = told_refused l a why w h d ∙ outcome_refused why _ l _ e (was_err h)

  pub bundle_taken : number_of why ≡ 0 → BundleTaken l r mask
  unfolding take_timeouts
  bundle_taken h =
      let w = bundle_passed l r mask (sym (ap number_of e) ∙ h) in
      let C = join_calm l r timeouts_kind mask w.low w.high (omega arith) in
      record {
        formed = w.formed;
        low = w.low;
        high = w.high;
        joined = λ at m a d. rw (d, a) (ready _ _ (formed_joined l w.formed r mask w.low w.high w.small) refl);
        done = λ at m o a d g. rw (g, d, a) (calm_still (calm_then C (raise_calm _)) ∙ outcome_admitted why _ l _ e h);
      }
