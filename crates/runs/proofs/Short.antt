-- Lists of calls on a formed state. Questions 1 and 3 are answered yes there, and every call leaves a formed state, so a list of calls is computed without
-- them. Assumes nothing.
use Rattle.std.specs.Prelude.{Ok, Err}
use mathlib.Core.Path.{◌≡◌, refl, sym, ap, ap₂, ◌∙◌}
use mathlib.Core.Bool.{true, false, cond, not, ◌&&◌}
use mathlib.Core.Logic.{◌⊎◌, inl, inr}
use mathlib.Core.List.{List, [], ◌∷◌, ◌++◌}
use Prim.Native.Nat.{ℕ, zero, suc, ◌+◌, ◌<◌}
use native.Mathlib.Omega.{arith}
use lib.Dec.{eqb, leb, ltb}
use lib.ListN.{length, get_or, set}
use borrow.Author.Tests.{eq-eqb, leb-true, ltb-true}
use Rattle.record.specs.Members.{legal, has}
use Rattle.record.specs.Refusals.{Verdict, number_of, Question, first_no}
use Rattle.record.specs.Layout.{round_of, source_of, body_of}
use Rattle.record.specs.Questions.{signer_questions, record_questions}
use Rattle.record.specs.declared.refusal.Refusal.TheVariants.{MemberCount, Source, PastEnd, Duplicate, Watcher}
use Rattle.record.proofs.Booleans.{which, and_left, and_right, cond_true, cond_false}
use Rattle.record.proofs.Turn.{next, done}
use Rattle.protocol.specs.Dag.{Records}
use Rattle.protocol.specs.Chain.{chain}
use Rattle.protocol.proofs.Laws.{records_ext}
use Rattle.replica.specs.Layout.{state_size, timeouts_at, no_votes_at, leaders_at, journal_at, made_at}
use Rattle.replica.specs.State.{member_count, current_round, committed_round, leader_count, journal_count, heard_mask, timeouts_mask, no_votes_mask}
use Rattle.replica.specs.State.{width, last_place}
use Rattle.replica.specs.State.{add_member, add_members, vertices}
use Rattle.replica.specs.WellFormed.{well_formed}
use Rattle.replica.specs.Outcome.{Outcome, unchanged, outcome}
use Rattle.replica.specs.Opening.{opened, open_state}
use Rattle.replica.specs.Status.{state_questions, head_if, status_of}
use Rattle.replica.specs.Place.{Span, words_in}
use Rattle.replica.specs.Lists.{span_if, hand_list}
use Rattle.replica.proofs.Formed.{WellFormed, formed, well_formed_lem}
use Rattle.replica.proofs.Opened.{opened_formed}
use Rattle.commits.specs.Commit.{raise_round, append_leaders, order_leaders, commit, lowest, grows, is_ready, commit_once, commit_up_to, most_commits}
use Rattle.ordering.specs.Calls.{place_questions, take_vertex, take_body, hear, take_first_body}
use Rattle.ordering.specs.Calls.{take_timeout, take_no_vote, bundle_questions, take_timeouts}
use Rattle.ordering.proofs.Carried.{written}
use Rattle.ordering.proofs.Kept.{keeps}
use Rattle.ordering.proofs.Numbers.{past_state}
use Rattle.pending.specs.Buffer.{records_in}
use Rattle.pending.specs.Passes.{Trial, Passed, ahead, followed_by, is_none, pass, passes, release}
use Rattle.pending.specs.Early.{later_questions, in_place, refusal_with, fate_of, try_vertex, Ending, admitted_with, refused_with, take_vertex_with}
use Rattle.pending.proofs.Passing.{vertex_formed, ahead_after}
use Rattle.pending.proofs.Claims.{keeps_state}
use Rattle.proposing.specs.Own.{is_member, mark_round}
use Rattle.proposing.specs.Making.{making_questions, made_record, no_record, propose_vertex}
use Rattle.proposing.specs.Signing.{signing_round, signing_questions, put_own_no_vote, sign_no_vote}
use Rattle.proposing.proofs.Kept.{own_keeps}
use Rattle.runs.specs.Call.{Call, opening, vertex, vertex_with, first_message, timeout, no_vote, bundle, status, ask_leader_list, ask_journal_list}
use Rattle.runs.specs.Call.{hand_leader_list, hand_journal_list, making, signing, reading, outcome_of, Given, nothing, head, part, made, buffered, given_of}
use Rattle.runs.specs.Call.{run}
use Rattle.runs.proofs.Asked.{open_yes, open_no, open_taken}

-- ---- commits that look each cell up once

-- the values of f at i, i + 1, .., k of them
unfoldable pub line : {A : Type 0} → (ℕ → A) → ℕ → ℕ → List A
line f i zero = []
line f i (suc k) = f i ∷ line f (suc i) k

-- found again
line_at : {A : Type 0} (f : ℕ → A) (k i j : ℕ) (d : A) → j < k → get_or (line f i k) j d ≡ f (i + j)
unfolding line
line_at f zero i j d h = absurd (omega arith)
line_at f (suc k) i zero d h = ap f (omega arith)
line_at f (suc k) i (suc j) d h = line_at f k (suc i) j d (omega arith) ∙ ap f (omega arith)

-- the records v, by a list of lists of those of rounds up to 32 and members below 16
unfoldable pub listed : Records → List (List (List ℕ)) → Records
listed v t r p = cond (ltb r 33 && ltb p 16) (get_or (get_or t r []) p []) (v r p)

-- so that a cell that is asked for many times is taken out of the words once
unfoldable pub by_list : Records → Records
by_list v = listed v (line (λ r. line (v r) 0 16) 0 33)

-- the records are the same
listed_is : (v : Records) → by_list v ≡ v
unfolding by_list listed
listed_is v = records_ext (by_list v) v (λ r p. go r p (which (ltb r 33 && ltb p 16)))
  where
    go : (r p : ℕ) → ((ltb r 33 && ltb p 16) ≡ true) ⊎ ((ltb r 33 && ltb p 16) ≡ false) → by_list v r p ≡ v r p
    go r p (inl e) =
        cond_true _ _ e
        ∙ ap (λ (t : List (List ℕ)). get_or t p [])
        (line_at (λ r. line (v r) 0 16) 33 0 r [] (ltb-true r 33 (and_left _ _ e)) ∙ ap (λ (x : ℕ). line (v x) 0 16) (omega arith))
        ∙ line_at (v r) 16 0 p [] (ltb-true p 16 (and_right (ltb r 33) _ e)) ∙ ap (v r) (omega arith)
    go r p (inr e) = cond_false _ _ e

-- a commit where the vertices are v
unfoldable pub commit_by : Records → List ℕ → ℕ → ℕ → List ℕ
commit_by v l q i =
    order_leaders v (set (append_leaders l (chain (member_count l) (width l) v (committed_round l) (last_place l) q (i + 1))) 2 q)
    (chain (member_count l) (width l) v (committed_round l) (last_place l) q (i + 1))

-- the next one
unfoldable pub once_by : Records → List ℕ → List ℕ
once_by v l = cond (grows l) (commit_by v l (committed_round l) (last_place l)) (commit_by v l (lowest l) 0)

-- all commits
unfoldable pub short_commits : List ℕ → ℕ → List ℕ
short_commits l zero = l
short_commits l (suc k) = cond (is_ready l) (short_commits (once_by (by_list (vertices l)) l) k) l

-- the next one ends in the same words
once_is : (l : List ℕ) → commit_once l ≡ once_by (vertices l) l
unfolding commit_once once_by commit_by commit
once_is l = refl

-- and so do all
commits_are : (k : ℕ) (l : List ℕ) → commit_up_to l k ≡ short_commits l k
unfolding commit_up_to short_commits
commits_are zero l = refl
commits_are (suc k) l = ap (λ (x : List ℕ). cond (is_ready l) x l)
    (commits_are k (commit_once l)
    ∙ ap (λ (x : List ℕ). short_commits x k) (once_is l ∙ ap (λ (v : Records). once_by v l) (sym (listed_is (vertices l)))))

-- ---- calls on a formed state, without the questions of the state

-- the refusal of a vertex
unfoldable pub short_vertex : List ℕ → List ℕ → Verdict
short_vertex l rec =
    first_no (record_questions (member_count l) (round_of rec) (source_of rec) (body_of rec) ++ place_questions l (round_of rec) (source_of rec) (body_of rec))

-- of a first message
unfoldable pub short_first : List ℕ → List ℕ → Verdict
short_first l rec =
    first_no
    (record_questions (member_count l) (round_of rec) (source_of rec) (body_of rec)
    ++ ((not (has (heard_mask l (round_of rec)) (source_of rec)), Duplicate) ∷ []))

-- of a timeout or a no-vote
unfoldable pub short_note : List ℕ → ℕ → ℕ → ℕ → Verdict
short_note l r p mask = first_no (signer_questions (member_count l) r p ++ ((not (has mask p), Duplicate) ∷ []))

-- of a bundle of timeouts
unfoldable pub short_bundle : List ℕ → ℕ → ℕ → Verdict
short_bundle l r mask = first_no (bundle_questions l r mask)

-- of asking for entries k and on of a list of so many
unfoldable pub short_list : ℕ → ℕ → Verdict
short_list k size = first_no ((leb k size, PastEnd) ∷ [])

-- the span of handing those over
unfoldable pub short_span : ℕ → ℕ → ℕ → Span
short_span first k size = span_if (number_of (short_list k size)) first k size

-- of making, and the record that it answers
unfoldable pub short_making : List ℕ → Verdict
short_making l = first_no ((is_member l, Watcher) ∷ making_questions l)

unfoldable pub short_made : List ℕ → List ℕ → List ℕ
short_made l digest = cond (eqb (number_of (short_making l)) 0) (made_record l digest) no_record

-- of signing
unfoldable pub short_signing : List ℕ → Verdict
short_signing l = first_no ((is_member l, Watcher) ∷ signing_questions l)

-- of a vertex with a pending buffer: the refusal, a waiting record tried, and the end
unfoldable pub short_with : List ℕ → List ℕ → List ℕ → Verdict
short_with l s rec = in_place (records_in s) rec (first_no (later_questions l s (member_count l) rec))

unfoldable pub short_take : List ℕ → List ℕ → Outcome
short_take l rec = outcome (short_vertex l rec) l (short_commits (raise_round (written l (round_of rec) (source_of rec) (body_of rec))) most_commits)

unfoldable pub short_try : List ℕ → List ℕ → Trial (List ℕ)
short_try l rec = record { fate = fate_of (short_take l rec).number; after = (short_take l rec).words }

unfoldable pub short_ending : List ℕ → List ℕ → List ℕ → Ending
short_ending l s rec =
    cond (eqb (number_of (short_with l s rec)) 0)
    (admitted_with l (release short_try (short_take l rec).words (records_in s)))
    (refused_with (short_with l s rec) l s rec)

-- the outcomes
unfoldable pub short_of : Call → List ℕ → Outcome
short_of (opening n own) l = outcome (first_no ((legal n, MemberCount) ∷ (leb own n, Source) ∷ [])) l (opened n own)
short_of (vertex rec) l = short_take l rec
short_of (vertex_with s rec) l = (short_ending l s rec).outcome
short_of (first_message rec) l = outcome (short_first l rec) l (short_commits (hear l (round_of rec) (source_of rec) (body_of rec)) most_commits)
short_of (timeout r p) l = outcome (short_note l r p (timeouts_mask l r)) l (raise_round (add_member l (timeouts_at r) p))
short_of (no_vote r p) l = outcome (short_note l r p (no_votes_mask l r)) l (add_member l (no_votes_at r) p)
short_of (bundle r mask) l = outcome (short_bundle l r mask) l (raise_round (add_members l (timeouts_at r) mask))
short_of status l = reading 0 l
short_of (ask_leader_list k) l = unchanged (short_list k (leader_count l)) l
short_of (ask_journal_list k) l = unchanged (short_list k (journal_count l)) l
short_of (hand_leader_list k) l = reading (short_span leaders_at k (leader_count l)).number l
short_of (hand_journal_list k) l = reading (short_span journal_at k (journal_count l)).number l
short_of (making digest) l = outcome (short_making l) l (mark_round l made_at (current_round l))
short_of signing l = outcome (short_signing l) l (put_own_no_vote l (signing_round l))

-- and what is given beside them
unfoldable pub short_given : Call → List ℕ → Given
short_given (opening n own) l = nothing
short_given (vertex rec) l = nothing
short_given (vertex_with s rec) l = buffered (short_ending l s rec).buffer
short_given (first_message rec) l = nothing
short_given (timeout r p) l = nothing
short_given (no_vote r p) l = nothing
short_given (bundle r mask) l = nothing
short_given status l = head (status_of l)
short_given (ask_leader_list k) l = nothing
short_given (ask_journal_list k) l = nothing
short_given (hand_leader_list k) l = part (short_span leaders_at k (leader_count l)) (words_in l (short_span leaders_at k (leader_count l)))
short_given (hand_journal_list k) l = part (short_span journal_at k (journal_count l)) (words_in l (short_span journal_at k (journal_count l)))
short_given (making digest) l = made (short_made l digest.words)
short_given signing l = nothing

-- the number of a status is that of the questions of the state
status_number : (why : Verdict) (l : List ℕ) → number_of (head_if why l) ≡ number_of why
status_number (Ok passed) l = refl
status_number (Err why) l = refl

-- two ways to try a record that do the same where P holds, and keep it, pass alike
module _ (f g : List ℕ → List ℕ → Trial (List ℕ)) (P : List ℕ → Type 0) (same : (k rec : List ℕ) → P k → f k rec ≡ g k rec)
    (kept : (k rec : List ℕ) → P k → P (f k rec).after) where
  pass_alike : (recs : List (List ℕ)) (l : List ℕ) → P l → (pass f l recs ≡ pass g l recs) × P (pass f l recs).after
  unfolding pass
  pass_alike [] l x = (refl, x)
  pass_alike (rec ∷ recs) l x =
      let w = pass_alike recs (f l rec).after (kept l rec x) in
      let e = same l rec x in (
        ap (ahead rec (f l rec).fate) w.0 ∙ ap (λ (t : Trial (List ℕ)). ahead rec t.fate (pass g t.after recs)) e,
        rw (ahead_after rec (f l rec).fate (pass f (f l rec).after recs)) w.1,
      )

  passes_alike : (k : ℕ) (recs : List (List ℕ)) (l : List ℕ) → P l → passes f k l recs ≡ passes g k l recs
  unfolding passes
  passes_alike zero recs l x = refl
  passes_alike (suc k) recs l x =
      let w = pass_alike recs l x in
      ap (λ (q : Passed (List ℕ)). cond (is_none (pass f l recs).admitted) (pass f l recs) (followed_by (pass f l recs) q))
      (passes_alike k (pass f l recs).waiting (pass f l recs).after w.1)
      ∙ ap (λ (p : Passed (List ℕ)). cond (is_none p.admitted) p (followed_by p (passes g k p.after p.waiting))) w.0

-- a vertex on a formed state
take_is : (l : List ℕ) → WellFormed l → (rec : List ℕ) → take_vertex l rec ≡ short_take l rec
unfolding short_take short_vertex take_body
take_is l S rec =
    ap (λ (why : Verdict). outcome why l (commit_up_to (raise_round (written l (round_of rec) (source_of rec) (body_of rec))) most_commits))
    (sym (past_state l _ S))
    ∙ ap (outcome (short_vertex l rec) l) (commits_are most_commits _)

-- a vertex with a pending buffer
ending_is : (l : List ℕ) → WellFormed l → (s rec : List ℕ) → take_vertex_with l s rec ≡ short_ending l s rec
unfolding take_vertex_with short_ending short_with short_try
ending_is l S s rec =
    let why : refusal_with l s rec ≡ short_with l s rec = ap (in_place (records_in s) rec) (sym (past_state l _ S)) in
    let words : (take_vertex l rec).words ≡ (short_take l rec).words = ap (λ (o : Outcome). o.words) (take_is l S rec) in
    let tries = passes_alike try_vertex short_try WellFormed
    (λ k x T. ap (λ (o : Outcome). record { fate = fate_of o.number; after = o.words }) (take_is k T x)) (λ k x T. vertex_formed k x T)
    (suc (length (records_in s))) (records_in s) (take_vertex l rec).words (vertex_formed l rec S) in
    ap₂ (λ (x : Verdict) (p : Passed (List ℕ)). cond (eqb (number_of x) 0) (admitted_with l p) (refused_with x l s rec)) why
    (tries ∙ ap (λ (k : List ℕ). release short_try k (records_in s)) words)

module _ (l : List ℕ) (S : WellFormed l) where
  -- the questions of the state are passed over
  past : (rest : List Question) (after : List ℕ) → outcome (first_no (state_questions l ++ rest)) l after ≡ outcome (first_no rest) l after
  past rest after = ap (λ (why : Verdict). outcome why l after) (sym (past_state l rest S))

  -- so by asking
  past_asking : (rest : List Question) → unchanged (first_no (state_questions l ++ rest)) l ≡ unchanged (first_no rest) l
  past_asking rest = ap (λ (why : Verdict). unchanged why l) (sym (past_state l rest S))

  -- and by handing over
  past_handing : (first k size : ℕ) → hand_list l k first size ≡ short_span first k size
  unfolding short_span short_list
  past_handing first k size = ap (λ (x : ℕ). span_if x first k size) (ap number_of (sym (past_state l _ S)))

  -- the outcomes are those of the calls
  pub short_is : (c : Call) → outcome_of c l ≡ short_of c l
  unfolding short_of short_vertex short_first short_note short_bundle short_list short_making short_signing open_state take_body take_first_body take_timeout
      take_no_vote take_timeouts propose_vertex sign_no_vote
  short_is (opening n own) = ap (λ (why : Verdict). outcome why l (opened n own)) (sym (next _ _ (eq-eqb (length l) state_size S.size) refl))
  short_is (vertex rec) = take_is l S rec
  short_is (vertex_with s rec) = ap (λ (e : Ending). e.outcome) (ending_is l S s rec)
  short_is (first_message rec) = past _ _ ∙ ap (outcome (short_first l rec) l) (commits_are most_commits _)
  short_is (timeout r p) = past _ _
  short_is (no_vote r p) = past _ _
  short_is (bundle r mask) = past _ _
  short_is status = ap (λ (x : ℕ). reading x l) (status_number (first_no (state_questions l)) l ∙ ap number_of (sym (past_state l [] S) ∙ sym done))
  short_is (ask_leader_list k) = past_asking _
  short_is (ask_journal_list k) = past_asking _
  short_is (hand_leader_list k) = ap (λ (s : Span). reading s.number l) (past_handing leaders_at k (leader_count l))
  short_is (hand_journal_list k) = ap (λ (s : Span). reading s.number l) (past_handing journal_at k (journal_count l))
  short_is (making digest) = past _ _
  short_is signing = past _ _

  -- the record that is made
  pub made_is : (digest : List ℕ) → (propose_vertex l digest).made ≡ short_made l digest
  unfolding propose_vertex short_made short_making
  made_is digest = ap (λ (why : Verdict). cond (eqb (number_of why) 0) (made_record l digest) no_record) (sym (past_state l _ S))

  -- and what is given
  pub given_is : (c : Call) → given_of c l ≡ short_given c l
  unfolding short_given
  given_is (opening n own) = refl
  given_is (vertex rec) = refl
  given_is (vertex_with s rec) = ap (λ (e : Ending). buffered e.buffer) (ending_is l S s rec)
  given_is (first_message rec) = refl
  given_is (timeout r p) = refl
  given_is (no_vote r p) = refl
  given_is (bundle r mask) = refl
  given_is status = refl
  given_is (ask_leader_list k) = refl
  given_is (ask_journal_list k) = refl
  given_is (hand_leader_list k) = ap (λ (s : Span). part s (words_in l s)) (past_handing leaders_at k (leader_count l))
  given_is (hand_journal_list k) = ap (λ (s : Span). part s (words_in l s)) (past_handing journal_at k (journal_count l))
  given_is (making digest) = ap made (made_is digest.words)
  given_is signing = refl

  -- a state that a call leaves well formed
  formed_kept : (k : List ℕ) → (length k ≡ state_size) × (well_formed k ≡ true) → WellFormed k
  formed_kept k h = formed k h.0 h.1

  -- an opening, admitted or refused
  formed_opening : (n own : ℕ) → ((legal n && leb own n) ≡ true) ⊎ ((legal n && leb own n) ≡ false) → WellFormed (open_state l n own).words
  formed_opening n own (inl e) =
      let g = and_left (legal n) _ e in
      let few = leb-true own n (and_right (legal n) _ e) in
      rw (open_yes l n own (open_taken l n own S.size g few)).2 (opened_formed n own g few)
  formed_opening n own (inr e) = rw (open_no l n own e) S

  -- every call leaves a formed state
  pub formed_after : (c : Call) → WellFormed (outcome_of c l).words
  formed_after (opening n own) = formed_opening n own (which (legal n && leb own n))
  formed_after (vertex rec) = formed_kept _ ((keeps l S.size (well_formed_lem l S)).0 _ _ _)
  formed_after (vertex_with s rec) = formed_kept _ (keeps_state l s rec S.size (well_formed_lem l S))
  formed_after (first_message rec) = formed_kept _ ((keeps l S.size (well_formed_lem l S)).1 _ _ _)
  formed_after (timeout r p) = formed_kept _ ((keeps l S.size (well_formed_lem l S)).2 r p)
  formed_after (no_vote r p) = formed_kept _ ((keeps l S.size (well_formed_lem l S)).3 r p)
  formed_after (bundle r mask) = formed_kept _ ((keeps l S.size (well_formed_lem l S)).4 r mask)
  formed_after status = S
  formed_after (ask_leader_list k) = S
  formed_after (ask_journal_list k) = S
  formed_after (hand_leader_list k) = S
  formed_after (hand_journal_list k) = S
  formed_after (making digest) = formed_kept _ ((own_keeps l S.size (well_formed_lem l S)).0 digest.words)
  formed_after signing = formed_kept _ (own_keeps l S.size (well_formed_lem l S)).1

-- a list of calls
unfoldable pub short_run : List ℕ → List Call → List ℕ
short_run l [] = l
short_run l (c ∷ calls) = short_run (short_of c l).words calls

-- it ends in the same words, and they are formed
pub run_is : (calls : List Call) (l : List ℕ) → WellFormed l → (run l calls ≡ short_run l calls) × WellFormed (run l calls)
unfolding run short_run
run_is [] l S = (refl, S)
run_is (c ∷ calls) l S =
    let w = run_is calls (outcome_of c l).words (formed_after l S c) in
    (w.0 ∙ ap (λ (o : Outcome). short_run o.words calls) (short_is l S c), w.1)
