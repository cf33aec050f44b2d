-- The witness: the models by the dry run, and the premises by tests over their records. Assumes nothing.
use mathlib.Core.Path.{◌≡◌, refl, sym, ap, ap₂, ◌∙◌}
use mathlib.Core.Bool.{Bool, true, false, not, ◌&&◌}
use mathlib.Core.Logic.{◌⊎◌, inl, inr, ⊎_elim}
use mathlib.Core.List.Memᴰ
use mathlib.Core.List.{List, [], ◌∷◌, ◌++◌}
use Prim.Native.Nat.{ℕ, ◌-◌}
use native.Mathlib.Omega.{arith}
use lib.Count.{ones}
use lib.Dec.{eqb, lit≤}
use borrow.Author.Tests.{eq-eqb, not-true}
use Rattle.record.specs.Below.{all, any, count}
use Rattle.record.specs.Members.{legal, leader_at, has, within, meets, is_round}
use Rattle.record.specs.Refusals.{first_no}
use Rattle.record.specs.Layout.{round_of, source_of, body_of, strong_of, timeouts_of, no_votes_of, weak_count_of, weak_of}
use Rattle.record.specs.Questions.{masks_ok, strong_ok, lacks_leader, quorum_if, timeouts_ok, no_votes_ok, weak_id_ok, rises, slot_ok, weak_ok}
use Rattle.record.specs.Questions.{signer_questions, record_questions}
use Rattle.record.proofs.Booleans.{which, never, and_left, and_right, and_both, imp, imp_elim}
use Rattle.protocol.specs.Dag.{Records, Dag, records_of, present, votes}
use Rattle.protocol.specs.Chain.{leaders}
use Rattle.protocol.specs.Journal.{journal}
use Rattle.protocol.specs.Witness.{early, late, vertex_of, first_of, witness_dag, honest}
use Rattle.protocol.proofs.Laws.{records_ext}
use Rattle.protocol.proofs.Lists.{same, same_eq}
use Rattle.protocol.proofs.Witness as protocol
use Rattle.replica.specs.Layout.{watcher}
use Rattle.replica.specs.Parents.{is_parent}
use Rattle.replica.specs.Opening.{opened, open_state}
use Rattle.replica.proofs.Opened.{opened_size}
use Rattle.pending.specs.Buffer.{In, records_from, words_of, buffer_of, records_ok, rest_zero, buffer_ok}
use Rattle.pending.specs.Passes.{pass, passes}
use Rattle.runs.specs.Call.{run}
use Rattle.runs.proofs.Asked.{four, open_yes, open_taken}
use Rattle.agreement.specs.Model.{Model, empty, dag_of, parents_there}
use Rattle.agreement.specs.Claim.{Twins, Vertex, First, Premises, Agreed}
use Rattle.agreement.specs.Witness.{start, vertex_calls, calls_of, model_for, Witness}
use Rattle.agreement.proofs.Records.{Found, find_in}
use Rattle.agreement.proofs.Family.{inside_self}
use Rattle.agreement.proofs.Following.{Follows}
use Rattle.agreement.proofs.Claim.{opened_follows, follow_more, agreement_claim}
use Rattle.agreement.proofs.Dry.{vertex_taken, taken, all_taken, dry, all_allowed_lem, dry_follow}

-- ---- tests over lists of records

-- every record of the list passes
every : (List ℕ → Bool) → List (List ℕ) → Bool
every t [] = true
every t (x ∷ l) = t x && every t l

-- then each one does
every_in : (t : List ℕ → Bool) (l : List (List ℕ)) → every t l ≡ true → (x : List ℕ) → In x l → t x ≡ true
unfolding every
every_in t [] e x h = absurd (Memᴰ.not-nil h)
every_in t (y ∷ l) e x h = ⊎_elim (λ d. ap t d ∙ and_left (t y) _ e) (λ d. every_in t l (and_right (t y) _ e) x d) (Memᴰ.cases_cons h)

-- every pair of records of two lists passes
pairs : (List ℕ → List ℕ → Bool) → List (List ℕ) → List (List ℕ) → Bool
pairs t l m = every (λ x. every (t x) m) l

-- then each pair does
pairs_in : (t : List ℕ → List ℕ → Bool) (l m : List (List ℕ)) → pairs t l m ≡ true → (x y : List ℕ) → In x l → In y m → t x y ≡ true
unfolding pairs
pairs_in t l m e x y h k = every_in (t x) m (every_in (λ x. every (t x) m) l e x h) y k

-- Two lists of records are the same records where each one's round and source has the same body in both.
agree : List (List ℕ) → List (List ℕ) → List ℕ → Bool
agree l m x = same (records_of l (round_of x) (source_of x)) (records_of m (round_of x) (source_of x))

-- no record
none : (body : List ℕ) → present body ≡ false → body ≡ []
none [] e = refl
none (w ∷ body) e = never refl e

-- then they are
same_records : (l m : List (List ℕ)) → every (agree l m) l ≡ true → every (agree l m) m ≡ true → records_of l ≡ records_of m
unfolding agree
same_records l m e d = records_ext (records_of l) (records_of m) (λ r p. go r p (which (present (records_of l r p))) (which (present (records_of m r p))))
  where
    by : (k : List (List ℕ)) (r p : ℕ) → every (agree l m) k ≡ true → Found k r p → records_of l r p ≡ records_of m r p
    by k r p t f =
        ap₂ (records_of l) (sym f.round) (sym f.source) ∙ same_eq _ _ (every_in (agree l m) k t f.rec f.there)
        ∙ ap₂ (records_of m) f.round f.source

    go : (r p : ℕ) → (present (records_of l r p) ≡ true) ⊎ (present (records_of l r p) ≡ false)
        → (present (records_of m r p) ≡ true) ⊎ (present (records_of m r p) ≡ false)
        → records_of l r p ≡ records_of m r p
    go r p (inl x) y = by l r p e (find_in l r p x)
    go r p (inr x) (inl y) = by m r p d (find_in m r p y)
    go r p (inr x) (inr y) = none _ x ∙ sym (none _ y)

-- ---- the models

-- every call is taken
all_taken_lem : (i : Bool) → all_taken 4 (empty 4) (calls_of i) ≡ true
unfolding calls_of vertex_calls vertex_of first_of early late all_taken taken vertex_taken parents_there is_parent pass passes records_of legal
    leader_at has within meets
    strong_of timeouts_of no_votes_of weak_count_of weak_of signer_questions record_questions buffer_of words_of records_from records_ok rest_zero buffer_ok
    first_no is_round masks_ok strong_ok lacks_leader quorum_if timeouts_ok no_votes_ok weak_id_ok rises slot_ok weak_ok all any ones
all_taken_lem true = refl
all_taken_lem false = refl

-- what the calls make of the empty model
made : Bool → Model
made i = dry (empty 4) (calls_of i)

-- its vertices
made_vertices : (i : Bool) → records_of (made i).vertices ≡ records_of (vertex_of i)
unfolding made dry calls_of vertex_calls vertex_of first_of early late every agree same records_of pass passes buffer_of words_of records_from
    parents_there is_parent any has strong_of weak_count_of weak_of all
made_vertices true = same_records (made true).vertices (vertex_of true) refl refl
made_vertices false = same_records (made false).vertices (vertex_of false) refl refl

-- its first messages
made_firsts : (i : Bool) → records_of (made i).firsts ≡ records_of (first_of i)
unfolding made dry calls_of vertex_calls vertex_of first_of early late every agree same records_of
made_firsts true = same_records (made true).firsts (first_of true) refl refl
made_firsts false = same_records (made false).firsts (first_of false) refl refl

-- its DAG
made_dag : (i : Bool) → dag_of (made i) ≡ witness_dag i
unfolding witness_dag
made_dag i = ap₂ (λ (v w : Records). record { vertex = v; first = w }) (made_vertices i) (made_firsts i)

-- ---- the premises

-- the vertices of both
all_vertices : List (List ℕ)
all_vertices = (made true).vertices ++ (made false).vertices

-- the first messages of both
all_firsts : List (List ℕ)
all_firsts = (made true).firsts ++ (made false).firsts

-- of one round and source
twin : List ℕ → List ℕ → Bool
twin x y = eqb (round_of x) (round_of y) && eqb (source_of x) (source_of y)

-- as twins are
twin_is : (x y : List ℕ) → Twins x y → twin x y ≡ true
unfolding twin
twin_is x y t = and_both (eq-eqb _ _ t.round) (eq-eqb _ _ t.source)

-- the tests of the three premises
is_one_vertex : List ℕ → List ℕ → Bool
is_one_vertex x y = imp (twin x y) (same x y)

is_one_record : List ℕ → List ℕ → Bool
is_one_record x y = imp (twin x y && honest (source_of x)) (same x y)

both : List ℕ → List ℕ → Bool
both x y = eqb (round_of x) (round_of y) && (honest (source_of x) && (votes 4 (round_of x - 1) 0 (body_of x) && has (no_votes_of (body_of y)) (source_of x)))

-- they are met
vertices_one : pairs is_one_vertex all_vertices all_vertices ≡ true
unfolding all_vertices made dry calls_of vertex_calls vertex_of first_of early late pairs every is_one_vertex twin same
    pass passes buffer_of words_of records_from records_of parents_there is_parent any has strong_of weak_count_of weak_of all
vertices_one = refl

records_one : pairs is_one_record all_firsts all_vertices ≡ true
unfolding all_vertices all_firsts made dry calls_of vertex_calls vertex_of first_of early late pairs every is_one_record twin same
    pass passes buffer_of words_of records_from records_of parents_there is_parent any has strong_of weak_count_of weak_of all
records_one = refl

never_both : pairs (λ x y. not (both x y)) (all_vertices ++ all_firsts) all_vertices ≡ true
unfolding all_vertices all_firsts made dry calls_of vertex_calls vertex_of first_of early late pairs every both leader_at has strong_of no_votes_of
    pass passes buffer_of words_of records_from records_of parents_there is_parent any weak_count_of weak_of all
never_both = refl

-- the premises hold of these models
made_premises : Premises 4 (made true) (made false) honest
unfolding count all_vertices all_firsts is_one_vertex is_one_record both
made_premises = record {
  few_faulty = lit≤ tt;
  one_vertex = λ x y h k t. same_eq x y
      (imp_elim (twin x y) _ (pairs_in is_one_vertex all_vertices all_vertices vertices_one x y (vertex_in x h) (vertex_in y k)) (twin_is x y t));
  one_record = λ x y h k t e.
      same_eq x y (imp_elim (twin x y && honest (source_of x)) _
      (pairs_in is_one_record all_firsts all_vertices records_one x y (first_in x h) (vertex_in y k)) (and_both (twin_is x y t) e));
  no_both = λ x y h k r e v s.
      never (and_both (eq-eqb _ _ r) (and_both e (and_both v s)))
      (not-true (both x y) (pairs_in (λ x y. not (both x y)) (all_vertices ++ all_firsts) all_vertices never_both x y
      (⊎_elim (λ d. Memᴰ.append_left all_firsts (vertex_in x d)) (λ d. Memᴰ.append_right all_vertices (first_in x d)) h) (vertex_in y k)));
}
  where
    vertex_in : (x : List ℕ) → Vertex 4 (made true) (made false) honest x → In x all_vertices
    vertex_in x h = unfold all_vertices in ⊎_elim (λ d. Memᴰ.append_left (made false).vertices d) (λ d. Memᴰ.append_right (made true).vertices d) h

    first_in : (x : List ℕ) → First 4 (made true) (made false) honest x → In x all_firsts
    first_in x h = unfold all_firsts in ⊎_elim (λ d. Memᴰ.append_left (made false).firsts d) (λ d. Memᴰ.append_right (made true).firsts d) h

-- ---- the calls

-- a state is opened with 4
opening_four : (open_state (opened 4 watcher) 4 watcher).number ≡ 0
opening_four = open_taken (opened 4 watcher) 4 watcher (opened_size 4 watcher) four (omega arith)

-- it follows the empty model
start_follows : Follows 4 start (empty 4)
start_follows = rw (open_yes (opened 4 watcher) 4 watcher opening_four).2 (opened_follows 4 watcher four (omega arith))

-- the calls make these models
model_made : (i : Bool) → model_for i ≡ made i
unfolding made
model_made true = dry_follow 4 (made true) (made false) honest four made_premises (calls_of true) start (empty 4) start_follows (all_taken_lem true)
    (inl (inside_self _))
model_made false = dry_follow 4 (made true) (made false) honest four made_premises (calls_of false) start (empty 4) start_follows (all_taken_lem false)
    (inr (inside_self _))

-- so the premises hold
premises : Premises 4 (model_for true) (model_for false) honest
premises = rw (model_made true, model_made false) made_premises

-- the DAGs are those of the protocol's witness
same_dag : (i : Bool) → dag_of (model_for i) ≡ witness_dag i
same_dag i = ap dag_of (model_made i) ∙ made_dag i

-- and the claim gives
-- the model's member count is that of the opening
counted : (i : Bool) → (model_for i).n ≡ 4
counted i = (follow_more (calls_of i) (empty 4) start).members

agreed : Agreed (run start (calls_of true)) (run start (calls_of false)) (model_for true) (model_for false)
agreed = agreement_claim 4 watcher watcher (opened 4 watcher) (opened 4 watcher) opening_four opening_four (calls_of true) (calls_of false)
    (all_allowed_lem 4 (calls_of true) (empty 4) (all_taken_lem true)) (all_allowed_lem 4 (calls_of false) (empty 4) (all_taken_lem false)) honest premises

-- The witness.
pub witness : Witness
witness = record {
  opens = opening_four;
  allowed_calls = λ i. all_allowed_lem 4 (calls_of i) (empty 4) (all_taken_lem i);
  premises = premises;
  same_dag = same_dag;
  agreed = agreed;
  leaders_first = agreed.first.leader_list ∙ ap₂ (λ (n : ℕ) (d : Dag). leaders n 1 d) (counted true) (same_dag true) ∙ (protocol.witness).leaders_first;
  leaders_second = agreed.second.leader_list ∙ ap₂ (λ (n : ℕ) (d : Dag). leaders n 1 d) (counted false) (same_dag false) ∙ (protocol.witness).leaders_second;
  journal_first = agreed.first.journal_list ∙ ap₂ (λ (n : ℕ) (d : Dag). journal n 1 d) (counted true) (same_dag true) ∙ (protocol.witness).journal_first;
  journal_second = agreed.second.journal_list ∙ ap₂ (λ (n : ℕ) (d : Dag). journal n 1 d) (counted false) (same_dag false) ∙ (protocol.witness).journal_second;
}
