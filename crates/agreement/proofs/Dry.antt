-- The model of a list of calls without any state: where what the model holds lets every call be taken, the calls make exactly this model. Assumes nothing.
use mathlib.Core.Path.{◌≡◌, refl, sym, ap, ◌∙◌}
use mathlib.Core.Bool.{Bool, true, false, not, ◌&&◌}
use mathlib.Core.Logic.{⊎_elim}
use mathlib.Core.List.{List, [], ◌∷◌, ◌++◌}
use Prim.Native.Nat.{ℕ, ◌<◌}
use native.Mathlib.Omega.{arith}
use lib.Dec.{eqb, leb}
use borrow.Author.Tests.{eqb-true, not-true}
use Rattle.record.specs.Members.{legal, has, id_round, id_member, id_limit, is_round, slots}
use Rattle.record.specs.Refusals.{number_of, Question, first_no}
use Rattle.record.specs.Layout.{round_of, source_of, body_of}
use Rattle.record.specs.Questions.{record_questions, body_refusal}
use Rattle.record.specs.Admitted.{Admitted}
use Rattle.record.proofs.Booleans.{which, never, and_left, and_right, and_both, and_fails_left, cond_true}
use Rattle.record.proofs.Turn.{next, done, front_yes, numbered_law, admitted}
use Rattle.protocol.specs.Dag.{Records, records_of, present, held}
use Rattle.replica.specs.State.{member_count, held_mask, heard_mask, firsts}
use Rattle.replica.specs.Parents.{is_parent, parents_held}
use Rattle.replica.specs.Status.{state_questions}
use Rattle.replica.proofs.Dags.{held_vertex, held_id_lem}
use Rattle.replica.proofs.ParentLaws.{parents_intro}
use Rattle.record.proofs.Rounds.{round_in}
use Rattle.ordering.specs.Calls.{same_body, vertex_questions, first_questions, take_body, take_first_body}
use Rattle.runs.specs.Call.{Call, opening, vertex, vertex_with, first_message, timeout, no_vote, bundle, status, ask_leader_list, ask_journal_list}
use Rattle.runs.specs.Call.{hand_leader_list, hand_journal_list, making, signing, outcome_of, allowed, all_allowed}
use Rattle.ordering.proofs.Numbers.{number_yes, past_state}
use Rattle.pending.specs.Buffer.{buffer_ok}
use Rattle.pending.proofs.Claims.{with_zero}
use Rattle.agreement.specs.Model.{Model, parents_there, admit, follow}
use Rattle.agreement.specs.Claim.{Premises}
use Rattle.agreement.proofs.Family.{Inside, inside_self, inside_then, Either, either_before}
use Rattle.agreement.proofs.Following.{Holds, Follows}
use Rattle.agreement.proofs.Released.{parent_there}
use Rattle.agreement.proofs.Claim.{admit_more, step}

-- ---- by what the model holds

-- the record is taken as a vertex
unfoldable pub vertex_taken : ℕ → Model → List ℕ → Bool
vertex_taken n m rec =
    eqb (number_of (body_refusal n (round_of rec) (source_of rec) (body_of rec))) 0
    && (not (held (records_of m.vertices) (round_of rec) (source_of rec)) && parents_there (records_of m.vertices) (round_of rec) (body_of rec))

-- the call is taken, or does not concern the model
unfoldable pub taken : ℕ → Model → Call → Bool
taken n m (vertex rec) = vertex_taken n m rec
taken n m (vertex_with s rec) = buffer_ok n s && vertex_taken n m rec
taken n m (first_message rec) =
    eqb (number_of (body_refusal n (round_of rec) (source_of rec) (body_of rec))) 0 && not (present (records_of m.firsts (round_of rec) (source_of rec)))
taken n m (opening k own) = not (legal k && leb own k)
taken n m (timeout r p) = true
taken n m (no_vote r p) = true
taken n m (bundle r mask) = true
taken n m status = true
taken n m (ask_leader_list k) = true
taken n m (ask_journal_list k) = true
taken n m (hand_leader_list k) = true
taken n m (hand_journal_list k) = true
taken n m (making digest) = true
taken n m signing = true

-- so for each of a list, after those before it
unfoldable pub all_taken : ℕ → Model → List Call → Bool
all_taken n m [] = true
all_taken n m (c ∷ calls) = taken n m c && all_taken n (admit c 0 m) calls

-- the model that they make
unfoldable pub dry : Model → List Call → Model
dry m [] = m
dry m (c ∷ calls) = dry (admit c 0 m) calls

-- ---- the questions of the calls

-- a member that was heard has a first message
heard_there : (l : List ℕ) (r p : ℕ) → (is_round r && has (heard_mask l r) p) ≡ true → present (firsts l r p) ≡ true
unfolding firsts
heard_there l r p e = ap present (cond_true _ _ e)

module _ (n : ℕ) (l : List ℕ) (m : Model) (h : Holds n l m) (r p : ℕ) (body : List ℕ) (ok : number_of (body_refusal n r p body) ≡ 0) where
  -- the vertices
  abbrev v : Records
  v = records_of m.vertices

  -- what admission says of the record
  A : Admitted (member_count l) r p body
  A = admitted (member_count l) r p body (rw h.members ok)

  -- the questions of the state and the record are passed over
  in_record : (rest : List Question) → first_no rest ≡ first_no (state_questions l ++ (record_questions (member_count l) r p body ++ rest))
  in_record rest =
      front_yes (record_questions (member_count l) r p body) rest ((numbered_law (member_count l) r p).1 body) (rw h.members ok)
      ∙ past_state l _ h.formed

  -- a vertex has the number 0
  vertex_passes : held (records_of m.vertices) r p ≡ false → ((y : ℕ) → y < id_limit → is_parent r body y ≡ true
      → held (records_of m.vertices) (id_round y) (id_member y) ≡ true)
      → number_of (first_no (vertex_questions l r p body)) ≡ 0
  vertex_passes new there =
      let few : p < slots = omega (arith, A.source_low, h.formed.front.high) in
      let free : (is_round r && has (held_mask l r) p) ≡ false = sym (held_vertex l h.formed.size r p few) ∙ ap present (h.vertex r p) ∙ new in
      let off : has (held_mask l r) p ≡ false = rw (round_in r A.round_low A.round_high) at free in
      let parents : parents_held l r body ≡ true = parents_intro l r body
      (λ y b d. held_id_lem l h.formed.size y ∙ ap present (h.vertex (id_round y) (id_member y)) ∙ there y b d) in
      ap number_of (sym (next _ _ (ap not (and_fails_left (same_body l r p body) off)) (next _ _ (ap not off) (next _ _ parents done)) ∙ in_record _))

  -- a first message has the number 0
  first_passes : present (records_of m.firsts r p) ≡ false → number_of (first_no (first_questions l r p body)) ≡ 0
  first_passes new = ap number_of (sym (next _ _ (ap not off) done ∙ in_record _))
    where
      off : has (heard_mask l r) p ≡ false
      off = ⊎_elim (λ d. never (heard_there l r p (and_both (round_in r A.round_low A.round_high) d)) (h.first r p ∙ new)) (λ d. d)
          (which (has (heard_mask l r) p))

-- ---- the model

module _ (n : ℕ) (l : List ℕ) (m : Model) (h : Holds n l m) where
  -- the questions of a vertex that is taken are answered yes
  passes : (rec : List ℕ) → vertex_taken n m rec ≡ true → number_of (first_no (vertex_questions l (round_of rec) (source_of rec) (body_of rec))) ≡ 0
  unfolding vertex_taken
  passes rec e =
      let ok : number_of (body_refusal n (round_of rec) (source_of rec) (body_of rec)) ≡ 0 = eqb-true _ 0 (and_left _ _ e) in
      let rest = and_right (eqb (number_of (body_refusal n (round_of rec) (source_of rec) (body_of rec))) 0) _ e in
      vertex_passes n l m h (round_of rec) (source_of rec) (body_of rec) ok (not-true _ (and_left _ _ rest))
      (parent_there n l m h rec (and_right (not (held (records_of m.vertices) (round_of rec) (source_of rec))) _ rest))

  -- a record that is taken has the number 0; of other calls the number does not matter
  admit_taken : (c : Call) → taken n m c ≡ true → admit c (outcome_of c l).number m ≡ admit c 0 m
  unfolding taken take_body take_first_body
  admit_taken (vertex rec) e = ap (λ (k : ℕ). admit (vertex rec) k m) (number_yes _ l _ (passes rec e))
  admit_taken (vertex_with s rec) e = ap (λ (k : ℕ). admit (vertex_with s rec) k m)
      (with_zero l s rec h.formed (rw h.members (and_left (buffer_ok n s) _ e)) (passes rec (and_right (buffer_ok n s) _ e)))
  admit_taken (first_message rec) e =
      let ok : number_of (body_refusal n (round_of rec) (source_of rec) (body_of rec)) ≡ 0 = eqb-true _ 0 (and_left _ _ e) in
      ap (λ (k : ℕ). admit (first_message rec) k m) (number_yes _ l _ (first_passes n l m h (round_of rec) (source_of rec) (body_of rec) ok
      (not-true _ (and_right (eqb (number_of (body_refusal n (round_of rec) (source_of rec) (body_of rec))) 0) _ e))))
  admit_taken (opening k own) e = refl
  admit_taken (timeout r p) e = refl
  admit_taken (no_vote r p) e = refl
  admit_taken (bundle r mask) e = refl
  admit_taken status e = refl
  admit_taken (ask_leader_list k) e = refl
  admit_taken (ask_journal_list k) e = refl
  admit_taken (hand_leader_list k) e = refl
  admit_taken (hand_journal_list k) e = refl
  admit_taken (making digest) e = refl
  admit_taken signing e = refl

-- such a call is no opening that succeeds
taken_allowed : (n : ℕ) (m : Model) (c : Call) → taken n m c ≡ true → allowed c ≡ true
unfolding taken
taken_allowed n m (vertex rec) e = refl
taken_allowed n m (vertex_with s rec) e = refl
taken_allowed n m (first_message rec) e = refl
taken_allowed n m (opening k own) e = e
taken_allowed n m (timeout r p) e = refl
taken_allowed n m (no_vote r p) e = refl
taken_allowed n m (bundle r mask) e = refl
taken_allowed n m status e = refl
taken_allowed n m (ask_leader_list k) e = refl
taken_allowed n m (ask_journal_list k) e = refl
taken_allowed n m (hand_leader_list k) e = refl
taken_allowed n m (hand_journal_list k) e = refl
taken_allowed n m (making digest) e = refl
taken_allowed n m signing e = refl

-- so for a list
pub all_allowed_lem : (n : ℕ) (calls : List Call) (m : Model) → all_taken n m calls ≡ true → all_allowed calls ≡ true
unfolding all_taken all_allowed
all_allowed_lem n [] m e = refl
all_allowed_lem n (c ∷ calls) m e = and_both (taken_allowed n m c (and_left _ _ e)) (all_allowed_lem n calls (admit c 0 m) (and_right (taken n m c) _ e))

-- no record is lost
dry_more : (calls : List Call) (m : Model) → Inside m (dry m calls)
unfolding dry
dry_more [] m = inside_self m
dry_more (c ∷ calls) m = inside_then (admit_more c 0 m) (dry_more calls (admit c 0 m))

module _ (n : ℕ) (a b : Model) (honest : ℕ → Bool) (g : legal n ≡ true) (P : Premises n a b honest) where
  -- the calls on a state that follows m make the model that they make of m alone
  pub dry_follow : (calls : List Call) (l : List ℕ) (m : Model) → Follows n l m → all_taken n m calls ≡ true → Either a b (dry m calls)
      → follow m l calls ≡ dry m calls
  unfolding all_taken dry follow
  dry_follow [] l m f e i = refl
  dry_follow (c ∷ calls) l m f e i =
      let t : taken n m c ≡ true = and_left _ _ e in
      let same : admit c (outcome_of c l).number m ≡ admit c 0 m = admit_taken n l m f.holds c t in
      let j : Either a b (admit c 0 m) = either_before (dry_more calls (admit c 0 m)) i in
      let k : Either a b m = either_before (admit_more c 0 m) j in
      let f' : Follows n (outcome_of c l).words (admit c 0 m) = rw same at (step n a b honest g P c l m (taken_allowed n m c t) f k (rw same j)) in
      ap (λ (x : Model). follow x (outcome_of c l).words calls) same ∙ dry_follow calls (outcome_of c l).words (admit c 0 m) f' (and_right (taken n m c) _ e) i
