-- The agreement claim. Assumes nothing.
use mathlib.Core.Path.{◌≡◌, refl, sym, ap, ◌∙◌}
use mathlib.Core.Bool.{Bool, true, false}
use mathlib.Core.Logic.{◌⊎◌, inl, inr, ⊎_elim}
use mathlib.Core.List.Memᴰ
use mathlib.Core.List.{List, [], ◌∷◌}
use Prim.Native.Nat.{ℕ, zero, suc, ◌+◌, ◌-◌, ◌≤◌, ◌<◌}
use native.Mathlib.Omega.{arith}
use borrow.Author.Tests.{not-true, ne_eqb}
use Rattle.record.specs.Members.{legal, leader, voted_rounds}
use Rattle.record.specs.Refusals.{Verdict, number_of, first_no}
use Rattle.record.specs.Layout.{round_of, source_of, body_of}
use Rattle.record.proofs.Booleans.{and_left, and_right}
use Rattle.protocol.specs.Dag.{records_of, present, votes, backed, committed}
use Rattle.protocol.proofs.Commit.{backed_cong}
use Rattle.protocol.proofs.Tracking.{at_open, at_leaders, at_journal}
use Rattle.protocol.proofs.Agreement.{agreement}
use Rattle.replica.specs.Layout.{committed_round_at, made_at, masks_at, timeouts_at, timeouts_kind, no_votes_kind, ordered_kind}
use Rattle.replica.specs.State.{current_round, committed_round, leader_list, journal_list, vertices, firsts, dag, add_member, add_members}
use Rattle.replica.specs.Outcome.{outcome}
use Rattle.replica.specs.Opening.{opened, open_state}
use Rattle.replica.proofs.Formed.{well_formed_lem}
use Rattle.protocol.specs.Chain.{leaders}
use Rattle.protocol.specs.Single.{one_taken}
use Rattle.protocol.specs.Journal.{journal}
use Rattle.replica.proofs.Opened.{opened_members, opened_word, opened_leaders, opened_journal, opened_vertices, opened_firsts, opened_formed}
use Rattle.commits.specs.Commit.{raise_round, commit_all}
use Rattle.ordering.specs.Calls.{hear, vertex_questions, first_questions, note_refusal, bundle_refusal, take_body, take_first_body, take_timeout, take_no_vote}
use Rattle.ordering.specs.Calls.{take_timeouts, take_vertex}
use Rattle.ordering.proofs.Carried.{written}
use Rattle.commits.proofs.Steps.{not_led}
use Rattle.ordering.proofs.Marks.{formed_raise, formed_joined}
use Rattle.ordering.proofs.Bundled.{bundle_passed}
use Rattle.ordering.proofs.Kept.{formed_noted}
use Rattle.ordering.proofs.Turns.{outcome_words, note_passed}
use Rattle.ordering.proofs.Writing.{raise_calm, raise_alike, join_calm, join_alike, note_calm, note_alike}
use Rattle.proposing.specs.Own.{mark_round}
use Rattle.proposing.specs.Making.{propose_refusal, propose_vertex}
use Rattle.proposing.specs.Signing.{signing_round, sign_refusal, put_own_no_vote, sign_no_vote}
use Rattle.proposing.proofs.Kept.{mark_calm, mark_alike, signed_calm, signed_alike, signing_passed, signing_round_lem, formed_making, formed_signing}
use Rattle.runs.specs.Call.{Call, opening, vertex, vertex_with, first_message, timeout, no_vote, bundle, status, ask_leader_list, ask_journal_list}
use Rattle.runs.specs.Call.{hand_leader_list, hand_journal_list, making, signing, outcome_of, run, allowed, all_allowed}
use Rattle.ordering.proofs.Numbers.{number_yes, words_yes, number_no, words_no, decided}
use Rattle.pending.specs.Buffer.{records_in, records_ok}
use Rattle.pending.specs.Early.{refusal_with, take_vertex_with}
use Rattle.pending.proofs.Holding.{joined_words}
use Rattle.pending.proofs.Claims.{Taken, Stopped, end_of}
use Rattle.runs.proofs.Asked.{open_yes, open_no}
use Rattle.agreement.specs.Model.{Model, empty, admit, follow, model_of, dag_of}
use Rattle.agreement.specs.Claim.{Premises, Matches, Agreed, AgreementClaim}
use Rattle.agreement.proofs.Records.{records_none}
use Rattle.agreement.proofs.Family.{Inside, inside_self, inside_then, Either, either_before, Part, part_dag, family}
use Rattle.agreement.proofs.Handing.{hand_leaders_lem, hand_journal_lem}
use Rattle.agreement.proofs.Released.{release_more, release_follows}
use Rattle.agreement.proofs.Following.{Follows, alike, at_cast, formed, certified_model, follows_alike, vertex_follows, first_follows}

-- ---- refused records

-- a refused record does not join
vertex_out : (rec : List ℕ) (number : ℕ) (m : Model) → (number ≡ 0 → ⊥) → admit (vertex rec) number m ≡ m
vertex_out rec zero m d = absurd (d refl)
vertex_out rec (suc number) m d = refl

-- nor a first message
first_out : (rec : List ℕ) (number : ℕ) (m : Model) → (number ≡ 0 → ⊥) → admit (first_message rec) number m ≡ m
first_out rec zero m d = absurd (d refl)
first_out rec (suc number) m d = refl

-- nor a record with a pending buffer
with_out : (s rec : List ℕ) (number : ℕ) (m : Model) → (number ≡ 0 → ⊥) → admit (vertex_with s rec) number m ≡ m
with_out s rec zero m d = absurd (d refl)
with_out s rec (suc number) m d = refl

-- ---- models only gain records

-- by one call
pub admit_more : (c : Call) (number : ℕ) (m : Model) → Inside m (admit c number m)
admit_more (vertex rec) zero m = record { members = refl; vertices = λ x h. Memᴰ.tail h; firsts = λ x h. h }
admit_more (vertex rec) (suc number) m = inside_self m
admit_more (vertex_with s rec) zero m = record {
  members = refl;
  vertices = λ x h. release_more (records_in s) (rec ∷ m.vertices) x (Memᴰ.tail h);
  firsts = λ x h. h;
}
admit_more (vertex_with s rec) (suc number) m = inside_self m
admit_more (first_message rec) zero m = record { members = refl; vertices = λ x h. h; firsts = λ x h. Memᴰ.tail h }
admit_more (first_message rec) (suc number) m = inside_self m
admit_more (opening n own) number m = inside_self m
admit_more (timeout r p) number m = inside_self m
admit_more (no_vote r p) number m = inside_self m
admit_more (bundle r mask) number m = inside_self m
admit_more status number m = inside_self m
admit_more (ask_leader_list k) number m = inside_self m
admit_more (ask_journal_list k) number m = inside_self m
admit_more (hand_leader_list k) number m = inside_self m
admit_more (hand_journal_list k) number m = inside_self m
admit_more (making digest) number m = inside_self m
admit_more signing number m = inside_self m

-- by a list of calls
pub follow_more : (calls : List Call) (m : Model) (l : List ℕ) → Inside m (follow m l calls)
unfolding follow
follow_more [] m l = inside_self m
follow_more (c ∷ calls) m l = inside_then (admit_more c (outcome_of c l).number m) (follow_more calls (admit c (outcome_of c l).number m)
    (outcome_of c l).words)

-- ---- a state just opened

-- it follows the empty model
pub opened_follows : (n own : ℕ) → legal n ≡ true → own ≤ n → Follows n (opened n own) (empty n)
opened_follows n own g few =
    let S = opened_formed n own g few in
    let same : (r p : ℕ) → vertices (opened n own) r p ≡ records_of [] r p = λ r p. opened_vertices n own r p ∙ sym (records_none r p) in
    let none : (r p : ℕ) → firsts (opened n own) r p ≡ records_of [] r p = λ r p. opened_firsts n own r p ∙ sym (records_none r p) in
    record {
      holds = record {
        formed = S;
        members = opened_members n own;
        vertex = same;
        first = λ r p. ap present (none r p);
        vote = λ r p. ap (votes n (r - 1) 0) (none r p);
        lists = at_cast (opened_word n own committed_round_at (omega arith) (λ e. omega arith)) (opened_leaders n own) (opened_journal n own)
            (at_open n 1 (dag_of (empty n)));
      };
      over = λ q x y. sym (not_led n (dag (opened n own)) q 0 (ap present (opened_vertices n own q (leader n q))));
    }

-- ---- a call, and all calls

module _ (n : ℕ) (a b : Model) (honest : ℕ → Bool) (g : legal n ≡ true) (P : Premises n a b honest) where
  -- a timeout or a no-vote that was admitted, whose masks are the round's 3 and 4
  note_follows : (l : List ℕ) (m : Model) (r p i : ℕ) → timeouts_kind ≤ i → i < ordered_kind → Follows n l m → number_of (note_refusal l r p i) ≡ 0
      → Follows n (add_member l (masks_at r + i) p) m
  note_follows l m r p i from to f e =
      let w = note_passed l r p _ e in
      follows_alike n l (add_member l (masks_at r + i) p) m (note_calm l r i p w.1 w.2 (omega arith)) (formed_noted l f.holds.formed r p i from to e)
      (note_alike l r i p w.1 w.2 from (omega arith)) f

  -- a bundle of timeouts that was admitted, ahead of the round rule
  bundle_follows : (l : List ℕ) (m : Model) (r mask : ℕ) → Follows n l m → number_of (bundle_refusal l r mask) ≡ 0
      → Follows n (add_members l (timeouts_at r) mask) m
  bundle_follows l m r mask f e =
      let w = bundle_passed l r mask e in
      follows_alike n l (add_members l (timeouts_at r) mask) m (join_calm l r timeouts_kind mask w.low w.high (omega arith))
      (formed_joined l w.formed r mask w.low w.high w.small)
      (join_alike l r timeouts_kind mask w.low w.high (omega arith) (omega arith)) f

  -- the round rule
  raise_follows : (l : List ℕ) (m : Model) → Follows n l m → Follows n (raise_round l) m
  raise_follows l m f = follows_alike n l (raise_round l) m (raise_calm l) (formed_raise l f.holds.formed) (raise_alike l) f

  -- a record that was made
  making_follows : (l : List ℕ) (m : Model) → Follows n l m → number_of (propose_refusal l) ≡ 0 → Follows n (mark_round l made_at (current_round l)) m
  making_follows l m f e = follows_alike n l (mark_round l made_at (current_round l)) m (mark_calm l made_at (current_round l) (omega arith) (omega arith))
      (formed_making l e) (mark_alike l made_at (current_round l) (omega arith) (omega arith)) f

  -- a no-vote that was signed
  signing_follows : (l : List ℕ) (m : Model) → Follows n l m → number_of (sign_refusal l) ≡ 0 → Follows n (put_own_no_vote l (signing_round l)) m
  signing_follows l m f e =
      let w = signing_round_lem l (signing_passed l e) in
      follows_alike n l (put_own_no_vote l (signing_round l)) m (signed_calm l (signing_round l) w.0 w.1) (formed_signing l e)
      (signed_alike l (signing_round l) w.0 w.1) f

  -- the model does not change
  noted : (why : Verdict) (l after : List ℕ) (m : Model) → Follows n l m → (number_of why ≡ 0 → Follows n after m) → Follows n (outcome why l after).words m
  noted why l after m f h = outcome_words (λ k. Follows n k m) why l after f h

  -- a vertex with a pending buffer
  with_follows : (s rec l : List ℕ) (m : Model) → Follows n l m → Either a b m
      → Either a b (admit (vertex_with s rec) (take_vertex_with l s rec).outcome.number m)
      → Follows n (take_vertex_with l s rec).outcome.words (admit (vertex_with s rec) (take_vertex_with l s rec).outcome.number m)
  with_follows s rec l m f i j = go (end_of l s rec)
    where
      go : Taken l s rec ⊎ Stopped l s rec
          → Follows n (take_vertex_with l s rec).outcome.words (admit (vertex_with s rec) (take_vertex_with l s rec).outcome.number m)
      go (inl T) =
          let j' : Either a b (admit (vertex_with s rec) 0 m) = rw T.end at j in
          let k : Either a b (admit (vertex rec) 0 m) = either_before (record {
            members = refl;
            vertices = release_more (records_in s) (rec ∷ m.vertices);
            firsts = λ x h. h;
          }) j' in
          let F : Follows n (take_vertex l rec).words (admit (vertex rec) 0 m) = rw (joined_words l rec T.passes)
          (vertex_follows n a b honest g P l m rec f.holds T.passes i k) in
          let ok : records_ok n 0 (records_in s) ≡ true = rw f.holds.members at T.buffer.records in
          rw T.end (release_follows n a b honest g P m (records_in s) (take_vertex l rec).words (rec ∷ m.vertices) ok F j')
      go (inr x) = rw (x.end, with_out s rec (number_of (refusal_with l s rec)) m x.number) f

  -- one call
  pub step : (c : Call) (l : List ℕ) (m : Model) → allowed c ≡ true → Follows n l m → Either a b m → Either a b (admit c (outcome_of c l).number m)
      → Follows n (outcome_of c l).words (admit c (outcome_of c l).number m)
  unfolding take_body take_first_body take_timeout take_no_vote take_timeouts propose_vertex sign_no_vote
  step (opening k own) l m ok f i j = rw (open_no l k own (not-true _ ok)) f
  step (vertex rec) l m ok f i j = go (decided why) j
    where
      why : Verdict
      why = first_no (vertex_questions l (round_of rec) (source_of rec) (body_of rec))

      after : List ℕ
      after = commit_all (raise_round (written l (round_of rec) (source_of rec) (body_of rec)))

      go : (number_of why ≡ 0) ⊎ (number_of why ≡ 0 → ⊥) → Either a b (admit (vertex rec) (outcome why l after).number m)
          → Follows n (outcome why l after).words (admit (vertex rec) (outcome why l after).number m)
      go (inl e) j = rw (words_yes why l after e, number_yes why l after e) (vertex_follows n a b honest g P l m rec f.holds e i
          (rw (number_yes why l after e) at j))
      go (inr d) j = rw (words_no why l after d, number_no why l after d, vertex_out rec (number_of why) m d) f
  step (vertex_with s rec) l m ok f i j = with_follows s rec l m f i j
  step (first_message rec) l m ok f i j = go (decided why) j
    where
      why : Verdict
      why = first_no (first_questions l (round_of rec) (source_of rec) (body_of rec))

      after : List ℕ
      after = commit_all (hear l (round_of rec) (source_of rec) (body_of rec))

      go : (number_of why ≡ 0) ⊎ (number_of why ≡ 0 → ⊥) → Either a b (admit (first_message rec) (outcome why l after).number m)
          → Follows n (outcome why l after).words (admit (first_message rec) (outcome why l after).number m)
      go (inl e) j = rw (words_yes why l after e, number_yes why l after e) (first_follows n a b honest g P l m rec f.holds e i
          (rw (number_yes why l after e) at j))
      go (inr d) j = rw (words_no why l after d, number_no why l after d, first_out rec (number_of why) m d) f
  step (timeout r p) l m ok f i j = noted _ l _ m f (λ e. raise_follows _ m (note_follows l m r p timeouts_kind (omega arith) (omega arith) f e))
  step (no_vote r p) l m ok f i j = noted _ l _ m f (note_follows l m r p no_votes_kind (omega arith) (omega arith) f)
  step (bundle r mask) l m ok f i j = noted _ l _ m f (λ e. raise_follows _ m (bundle_follows l m r mask f e))
  step status l m ok f i j = f
  step (ask_leader_list k) l m ok f i j = f
  step (ask_journal_list k) l m ok f i j = f
  step (hand_leader_list k) l m ok f i j = f
  step (hand_journal_list k) l m ok f i j = f
  step (making digest) l m ok f i j = noted _ l _ m f (making_follows l m f)
  step signing l m ok f i j = noted _ l _ m f (signing_follows l m f)

  -- where the model of all calls lies within a or b, so does every one on the way
  follows : (calls : List Call) (l : List ℕ) (m : Model) → all_allowed calls ≡ true → Follows n l m → Either a b (follow m l calls)
      → Follows n (run l calls) (follow m l calls)
  unfolding run follow all_allowed
  follows [] l m ok f i = f
  follows (c ∷ calls) l m ok f i =
      let k : Model = admit c (outcome_of c l).number m in
      let j : Either a b k = either_before (follow_more calls k (outcome_of c l).words) i in
      follows calls (outcome_of c l).words k (and_right (allowed c) _ ok)
      (step c l m (and_left (allowed c) _ ok) f (either_before (admit_more c (outcome_of c l).number m) j) j) i

  -- ---- the lists that are handed over

  module _ (l : List ℕ) (m : Model) (count : m.n ≡ n) (f : Follows n l m) where
    -- no round of the model is left to commit
    over_model : (q : ℕ) → committed_round l < q → q ≤ voted_rounds → committed n (dag_of m) q ≡ false
    over_model q x y = sym (backed_cong n 1 (omega arith) (dag l) (dag_of m) f.holds.vertex (alike f.holds) q 0 (omega arith)) ∙ f.over q x y

    -- and none of its one leader
    full : 0 < committed_round l → one_taken (committed_round l) < 1 → backed n (dag_of m) (committed_round l) (one_taken (committed_round l)) ≡ false
    full p k = absurd (omega (arith, rw (ne_eqb (committed_round l) 0 (λ e. omega arith)) at k))

    -- the lists are the model's
    matches : Matches l m
    matches =
        let S = f.holds.formed in
        record {
          leader_list = hand_leaders_lem l S.size (well_formed_lem l S)
              ∙ at_leaders n 1 (dag_of m) (committed_round l) (one_taken (committed_round l)) (leader_list l) (journal_list l) f.holds.lists
              (omega arith) S.leaders.committed_high full over_model
              ∙ ap (λ (x : ℕ). leaders x 1 (dag_of m)) (sym count);
          journal_list = hand_journal_lem l S.size (well_formed_lem l S)
              ∙ at_journal n 1 (dag_of m) (committed_round l) (one_taken (committed_round l)) (leader_list l) (journal_list l) f.holds.lists
              (omega arith) S.leaders.committed_high full over_model
              ∙ ap (λ (x : ℕ). journal x 1 (dag_of m)) (sym count);
        }

  -- and those of the one are prefixes of the other's
  agreed : (l k : List ℕ) → a.n ≡ n → b.n ≡ n → Follows n l a → Follows n k b → Agreed l k a b
  agreed l k ca cb f h =
      let x = matches l a ca f in
      let y = matches k b cb h in
      let i : Part n a b = record {
        model = a;
        inside = inl (inside_self a);
        formed = formed n l a f.holds.formed f.holds.members f.holds.vertex;
        certified = certified_model n l a f.holds.formed f.holds.members f.holds.vertex;
      } in
      let j : Part n a b = record {
        model = b;
        inside = inr (inside_self b);
        formed = formed n k b h.holds.formed h.holds.members h.holds.vertex;
        certified = certified_model n k b h.holds.formed h.holds.members h.holds.vertex;
      } in
      let both = agreement n 1 (part_dag n a b) honest (family n a b honest g P) i j in
      record {
        first = x;
        second = y;
        ordered = ⊎_elim
            (λ e. inl (record {
              leader_list = rw (x.leader_list, y.leader_list, ca, cb) e.0;
              journal_list = rw (x.journal_list, y.journal_list, ca, cb) e.1;
            }))
            (λ e. inr (record {
              leader_list = rw (x.leader_list, y.leader_list, ca, cb) e.0;
              journal_list = rw (x.journal_list, y.journal_list, ca, cb) e.1;
            }))
            both;
      }

-- THE CLAIM
pub agreement_claim : AgreementClaim
agreement_claim n own other u w eu ew calls others ok fine honest P =
    let a = open_yes u n own eu in
    let b = open_yes w n other ew in
    let g = a.0 in
    let l = (open_state u n own).words in
    let k = (open_state w n other).words in
    let f : Follows n l (empty n) = rw a.2 (opened_follows n own g a.1) in
    let h : Follows n k (empty n) = rw b.2 (opened_follows n other g b.1) in
    agreed n (model_of n l calls) (model_of n k others) honest g P (run l calls) (run k others)
    (follow_more calls (empty n) l).members (follow_more others (empty n) k).members
    (follows n (model_of n l calls) (model_of n k others) honest g P calls l (empty n) ok f (inl (inside_self _)))
    (follows n (model_of n l calls) (model_of n k others) honest g P others k (empty n) fine h (inr (inside_self _)))
