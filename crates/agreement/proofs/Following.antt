-- A state follows its model: both hold the same, and the lists are those of the committed round. Assumes nothing.
use mathlib.Core.Path.{◌≡◌, refl, sym, ap, ap₂, ◌∙◌}
use mathlib.Core.Bool.{Bool, true, false, ◌&&◌}
use mathlib.Core.Logic.{◌⊎◌, inl, inr, ⊎_elim}
use mathlib.Core.List.{List, [], ◌∷◌, ◌++◌}
use Prim.Native.Nat.{ℕ, zero, suc, ◌+◌, ◌-◌, ◌^◌, ◌≤◌, ◌<◌}
use native.Mathlib.Omega.{arith}
use lib.Dec.{eqb, ltb}
use lib.ListN.{length}
use borrow.Author.Tests.{ltb-true, ltb-false, ne_eqb}
use Rattle.record.specs.Members.{legal, has, is_round, rounds, slots, voted_rounds}
use Rattle.record.specs.Refusals.{number_of, first_no}
use Rattle.record.specs.Layout.{round_of, source_of, body_of, timeouts_of, body_size}
use Rattle.record.specs.Admitted.{Admitted, Certified}
use Rattle.record.proofs.Booleans.{which, never, and_fails_right, cond_false}
use Rattle.record.proofs.Below.{least_sat, least_off}
use Rattle.record.proofs.Turn.{admitted}
use Rattle.protocol.specs.Dag.{Records, Dag, records_of, present, held, votes, committed}
use Rattle.protocol.specs.Chain.{chain}
use Rattle.protocol.specs.Single.{one_taken}
use Rattle.protocol.specs.Journal.{extend}
use Rattle.protocol.specs.Premises.{ValidVertices}
use Rattle.protocol.proofs.Laws.{records_ext}
use Rattle.protocol.proofs.Commit.{backed_cong}
use Rattle.protocol.proofs.Tracking.{At, at_grow, at_commit, settled_main}
use Rattle.replica.specs.State.{member_count, committed_round, held_mask, heard_mask, votes_mask, leader_list, journal_list, vertices, firsts, dag}
use Rattle.replica.proofs.Words.{legal_pow}
use Rattle.replica.proofs.Formed.{WellFormed}
use Rattle.replica.proofs.Dags.{held_vertex, dag_well_formed, dag_certified}
use Rattle.commits.specs.Commit.{commit, committable, lowest, is_ready, commit_once, commit_up_to, most_commits, raise_round}
use Rattle.commits.proofs.Repeating.{committable_ready, one_once, one_ready}
use Rattle.ordering.specs.Calls.{put_vertex, hear, vertex_questions, first_questions}
use Rattle.ordering.proofs.Carried.{written, VertexWritten, vertex_written, carry_calm, carry_alike}
use Rattle.commits.proofs.Steps.{committable_at}
use Rattle.commits.proofs.Frame.{Alike, vertices_same, firsts_same}
use Rattle.commits.proofs.Frames.{lists_members}
use Rattle.commits.proofs.Growing.{taken_one, grown, commit_vertices, commit_firsts, commit_round, commit_leaders, commit_journal}
use Rattle.ordering.proofs.Marks.{formed_raise, formed_hear}
use Rattle.ordering.proofs.Kept.{formed_commit, committable_round}
use Rattle.ordering.proofs.Numbers.{vertex_yes, first_yes}
use Rattle.agreement.specs.Model.{Model, dag_of}
use Rattle.agreement.specs.Claim.{Premises}
use Rattle.agreement.proofs.Records.{records_here, records_there, by_record, records_more}
use Rattle.agreement.proofs.Family.{Either, Part, part_dag, family}
use Rattle.ordering.proofs.Writing.{Calm, calm_members, calm_committed, calm_leaders, calm_journal, raise_calm, raise_alike, hear_calm, hear_vertices}
use Rattle.ordering.proofs.Writing.{hear_other, hear_here, hear_vote, put_firsts, put_here, put_other}

-- the state l holds what the model m does
pub record Holds (n : ℕ) (l : List ℕ) (m : Model) : Type 0 where
  pub formed : WellFormed l
  pub members : member_count l ≡ n
  pub vertex : (r p : ℕ) → vertices l r p ≡ records_of m.vertices r p
  pub first : (r p : ℕ) → present (firsts l r p) ≡ present (records_of m.firsts r p)
  pub vote : (r p : ℕ) → votes n (r - 1) 0 (firsts l r p) ≡ votes n (r - 1) 0 (records_of m.firsts r p)
  -- the lists are those of the committed round
  pub lists : At n 1 (dag_of m) (committed_round l) (one_taken (committed_round l)) (leader_list l) (journal_list l)

-- the votes for the leader of round r
pub alike : {n : ℕ} {l : List ℕ} {m : Model} → Holds n l m → (r x p : ℕ) → x < 1
    → votes n r x (firsts l (suc r) p) ≡ votes n r x (records_of m.firsts (suc r) p)
alike h r x p lx = let e : suc r - 1 ≡ r = omega arith in let z : x ≡ 0 = omega arith in rw z (rw e at (h.vote (suc r) p))

-- no round is left to commit
abbrev pub Over : ℕ → List ℕ → Type 0
Over n l = (q : ℕ) → committed_round l < q → q ≤ voted_rounds → committed n (dag l) q ≡ false

pub record Follows (n : ℕ) (l : List ℕ) (m : Model) : Type 0 where
  pub holds : Holds n l m
  pub over : Over n l

-- the lists of equal states
pub at_cast : {n : ℕ} {d : Dag} {c k : ℕ} {L M I J : List ℕ} → k ≡ c → M ≡ L → J ≡ I → At n 1 d c (one_taken c) L I → At n 1 d k (one_taken k) M J
at_cast e f g a = rw (e, f, g) a

-- of a round its one leader is taken
one_place : {n : ℕ} {d : Dag} {L J : List ℕ} (q : ℕ) → 0 < q → At n 1 d q 1 L J → At n 1 d q (one_taken q) L J
one_place q l a = rw (ne_eqb q 0 (λ e. omega arith)) a

-- the vertices of the model are certified
pub certified_model : (n : ℕ) (l : List ℕ) (m : Model) → WellFormed l → member_count l ≡ n → ((r p : ℕ) → vertices l r p ≡ records_of m.vertices r p)
    → (r p : ℕ) → held (records_of m.vertices) r p ≡ true → Certified n 1 r p (records_of m.vertices r p)
certified_model n l m S e same r p h = rw (e, same r p) at (dag_certified l S r p (rw (same r p) h))

-- the vertices of the model are well formed
pub formed : (n : ℕ) (l : List ℕ) (m : Model) → WellFormed l → member_count l ≡ n → ((r p : ℕ) → vertices l r p ≡ records_of m.vertices r p)
    → ValidVertices n (records_of m.vertices)
formed n l m S e same = rw (e, records_ext (vertices l) (records_of m.vertices) same) at (dag_well_formed l S)

-- where a member was not heard there is no first message
first_none : (l : List ℕ) (r p : ℕ) → has (heard_mask l r) p ≡ false → present (firsts l r p) ≡ false
unfolding firsts
first_none l r p e = ap present (cond_false _ _ (and_fails_right (is_round r) e))

-- ---- changes that leave all this

module _ (n : ℕ) (l k : List ℕ) (m : Model) (C : Calm l k) (S : WellFormed k) where
  -- the lists
  calm_lists : WellFormed l → At n 1 (dag_of m) (committed_round l) (one_taken (committed_round l)) (leader_list l) (journal_list l)
      → At n 1 (dag_of m) (committed_round k) (one_taken (committed_round k)) (leader_list k) (journal_list k)
  calm_lists s a = at_cast (calm_committed C) (calm_leaders C s.leaders.few) (calm_journal C s.journal.few) a

  module _ (A : Alike l k) where
    -- and what is held
    pub holds_alike : Holds n l m → Holds n k m
    holds_alike h = record {
      formed = S;
      members = calm_members C ∙ h.members;
      vertex = λ r p. ap (λ (v : Records). v r p) (vertices_same A) ∙ h.vertex r p;
      first = λ r p. ap (λ (v : Records). present (v r p)) (firsts_same A) ∙ h.first r p;
      vote = λ r p. ap (λ (v : Records). votes n (r - 1) 0 (v r p)) (firsts_same A) ∙ h.vote r p;
      lists = calm_lists h.formed h.lists;
    }

    -- and that no round is left
    pub follows_alike : Follows n l m → Follows n k m
    follows_alike f = record {
      holds = holds_alike f.holds;
      over = λ q a b.
          ap₂ (λ (v w : Records). committed n (record { vertex = v; first = w }) q) (vertices_same A) (firsts_same A)
          ∙ f.over q (omega (arith, calm_committed C)) b;
    }

-- ---- over the family of models within a or within b

module _ (n : ℕ) (a b : Model) (honest : ℕ → Bool) (g : legal n ≡ true) (P : Premises n a b honest) where
  -- a model that a state holds is one of the family
  abbrev part : (l : List ℕ) (m : Model) → Either a b m → Holds n l m → Part n a b
  part l m i h = record {
    model = m;
    inside = i;
    formed = formed n l m h.formed h.members h.vertex;
    certified = certified_model n l m
        h.formed h.members h.vertex;
  }

  -- ---- a commit

  module _ (l : List ℕ) (m : Model) (i : Either a b m) (h : Holds n l m) (q : ℕ) (c : committable l q ≡ true) where
    -- what is held stays, and the lists grow to those of round q
    commit_holds : Holds n (commit l q 0) m
    commit_holds =
        let w = committable_round l q c in
        let S = h.formed in
        let ready = committable_ready l q c in
        let v = records_ext (vertices l) (records_of m.vertices) h.vertex in
        let there : committed n (dag_of m) q ≡ true = sym (backed_cong n 1 (omega arith) (dag l) (dag_of m) h.vertex (alike h) q 0 (omega arith))
        ∙ (rw h.members at w.2) in
        record {
          formed = formed_commit l S q 0 ready;
          members = lists_members l (commit l q 0) (grown l S q 0 ready).kept ∙ h.members;
          vertex = λ r p. ap (λ (x : Records). x r p) (commit_vertices l S q 0 ready) ∙ h.vertex r p;
          first = λ r p. ap (λ (x : Records). present (x r p)) (commit_firsts l S q 0 ready) ∙ h.first r p;
          vote = λ r p. ap (λ (x : Records). votes n (r - 1) 0 (x r p)) (commit_firsts l S q 0 ready) ∙ h.vote r p;
          lists = at_cast (commit_round l S q 0 ready)
              (commit_leaders l S q 0 ready ∙ ap (λ (xs : List ℕ). leader_list l ++ xs) (taken_one l S q)
              ∙ ap₂ (λ (k : ℕ) (x : Records). leader_list l ++ chain k 1 x (committed_round l) (one_taken (committed_round l)) q 1) h.members v)
              (commit_journal l S q 0 ready ∙ ap (extend (member_count l) (vertices l) (journal_list l)) (taken_one l S q)
              ∙ ap₂ (λ (k : ℕ) (x : Records). extend k x (journal_list l) (chain k 1 x (committed_round l) (one_taken (committed_round l)) q 1)) h.members v)
              (one_place q (omega (arith, w.0)) (at_commit n 1 (part_dag n a b) honest (family n a b honest g P) (part l m i h) (committed_round l)
              (one_taken (committed_round l)) q 1 (leader_list l) (journal_list l) h.lists
              (inl w.0) (settled_main n 1 (dag_of m) q (omega arith) (omega (arith, w.0)) there)));
        }

    -- the committed round rises
    raised : committed_round l < committed_round (commit l q 0)
    raised = let w = committable_round l q c in rw (commit_round l h.formed q 0 (committable_ready l q c)) w.0

  -- all commits: then no round is left
  pub commits : (k : ℕ) (l : List ℕ) (m : Model) → Either a b m → Holds n l m → voted_rounds ≤ k + committed_round l → Follows n (commit_up_to l k) m
  unfolding commit_up_to
  commits zero l m i h e = record { holds = h; over = λ q x y. absurd (omega arith) }
  commits (suc k) l m i h e = go (which (ltb (lowest l) rounds)) (commits k (commit l (lowest l) 0) m i)
    where
      -- a round has one leader, so the committed round does not grow
      none : is_ready l ≡ ltb (lowest l) rounds
      none = one_ready l h.formed

      next : commit_once l ≡ commit l (lowest l) 0
      next = one_once l h.formed

      go : (ltb (lowest l) rounds ≡ true) ⊎ (ltb (lowest l) rounds ≡ false)
          → (Holds n (commit l (lowest l) 0) m → voted_rounds ≤ k + committed_round (commit l (lowest l) 0)
          → Follows n (commit_up_to (commit l (lowest l) 0) k) m)
          → Follows n (commit_up_to l (suc k)) m
      go (inl d) ih =
          let c = least_sat rounds (committable l) (ltb-true _ _ d) in
          rw (none ∙ d, next) (ih (commit_holds l m i h (lowest l) c) (omega (arith, raised l m i h (lowest l) c)))
      go (inr d) ih = rw (none ∙ d) (record {
        holds = h;
        over = λ q x y. committable_at l n q (sym h.members) x y ∙ least_off rounds (committable l) q (omega (arith, ltb-false (lowest l) rounds d));
      })

  -- ---- an admitted vertex

  module _ (l : List ℕ) (m : Model) (rec : List ℕ) (h : Holds n l m)
      (ok : number_of (first_no (vertex_questions l (round_of rec) (source_of rec) (body_of rec))) ≡ 0) where
    -- the model with it
    abbrev more : Model
    more = record { n = m.n; vertices = rec ∷ m.vertices; firsts = m.firsts }

    -- the state with it
    abbrev put : List ℕ
    put = put_vertex l (round_of rec) (source_of rec) (body_of rec)

    -- what admission says of it, and of what it writes
    W : VertexWritten l (round_of rec) (source_of rec) (body_of rec)
    W = vertex_written l (round_of rec) (source_of rec) (body_of rec) ok

    A : Admitted (member_count l) (round_of rec) (source_of rec) (body_of rec)
    A = W.admit

    -- its source is a member
    few : source_of rec < slots
    few = W.few

    -- the state stays formed
    put_formed : WellFormed put
    put_formed = W.put

    -- the lists stay
    calm : Calm l put
    calm = W.put_calm

    -- there was none of its round and source
    new : held (records_of m.vertices) (round_of rec) (source_of rec) ≡ false
    new =
        ap present (sym (h.vertex (round_of rec) (source_of rec))) ∙ held_vertex l h.formed.size (round_of rec) (source_of rec) few
        ∙ and_fails_right (is_round (round_of rec)) (vertex_yes l (round_of rec) (source_of rec) (body_of rec) ok).1

    -- the vertices are those of the model
    put_vertex_lem : (s q : ℕ) → vertices put s q ≡ records_of (rec ∷ m.vertices) s q
    put_vertex_lem = by_record rec (λ s q. vertices put s q ≡ records_of (rec ∷ m.vertices) s q)
        (put_here l (round_of rec) (source_of rec) (body_of rec) h.formed.size A.round_low A.round_high few A.size
        ∙ sym (records_here rec m.vertices))
        (λ s q e. put_other l (round_of rec) (source_of rec) (body_of rec) h.formed.size A.round_low A.round_high few A.size small s q e
        ∙ h.vertex s q ∙ sym (records_there rec m.vertices s q e))
      where
        small : (t : ℕ) → 1 ≤ t → t ≤ rounds → held_mask l t < 2 ^ slots
        small t x y = legal_pow (member_count l) (held_mask l t) h.formed.front.members (h.formed.masks.held_low t x y)

    -- the state holds it then
    vertex_holds : Either a b m → Either a b more → Holds n put more
    vertex_holds i j =
        let j' : Part n a b = record {
          model = more;
          inside = j;
          formed = formed n put more put_formed
              (calm_members calm ∙ h.members) put_vertex_lem;
          certified = certified_model n put more put_formed (calm_members calm ∙ h.members) put_vertex_lem;
        } in
        record {
          formed = put_formed;
          members = calm_members calm ∙ h.members;
          vertex = put_vertex_lem;
          first = λ s q. ap present (stay s q) ∙ h.first s q;
          vote = λ s q. ap (votes n (s - 1) 0) (stay s q) ∙ h.vote s q;
          lists = calm_lists n l put more calm put_formed h.formed
              (at_grow n 1 (part_dag n a b) honest (family n a b honest g P) (part l m i h) j' (committed_round l) (one_taken (committed_round l))
              (leader_list l) (journal_list l)
              (record { vertices = records_more rec m.vertices new; firsts = λ s q e. refl }) h.lists);
        }
      where
        stay : (s q : ℕ) → firsts put s q ≡ firsts l s q
        stay = put_firsts l (round_of rec) (source_of rec) (body_of rec) h.formed.size A.round_low A.round_high few A.size

    -- the timeout mask that it carries leaves the lists and the records as they were
    abbrev carried : List ℕ
    carried = written l (round_of rec) (source_of rec) (body_of rec)

    carried_holds : Either a b m → Either a b more → Holds n carried more
    carried_holds i j = holds_alike n put carried more (carry_calm put (round_of rec) (timeouts_of (body_of rec)) A.round_high) W.formed
        (carry_alike put (round_of rec) (timeouts_of (body_of rec)) A.round_high) (vertex_holds i j)

    -- and follows the model after all commits
    pub vertex_follows : Either a b m → Either a b more → Follows n (commit_up_to (raise_round carried) most_commits) more
    vertex_follows i j = commits most_commits (raise_round carried) more j
        (holds_alike n carried (raise_round carried) more (raise_calm carried) (formed_raise carried W.formed) (raise_alike carried) (carried_holds i j))
        (omega arith)

  -- ---- an admitted first message

  module _ (l : List ℕ) (m : Model) (rec : List ℕ) (h : Holds n l m)
      (ok : number_of (first_no (first_questions l (round_of rec) (source_of rec) (body_of rec))) ≡ 0) where
    -- the model with it
    abbrev further : Model
    further = record { n = m.n; vertices = m.vertices; firsts = rec ∷ m.firsts }

    -- the state with it
    abbrev after : List ℕ
    after = hear l (round_of rec) (source_of rec) (body_of rec)

    -- what admission says of it
    B : Admitted (member_count l) (round_of rec) (source_of rec) (body_of rec)
    B = admitted (member_count l) (round_of rec) (source_of rec) (body_of rec) (first_yes l (round_of rec) (source_of rec) (body_of rec) ok).0

    -- the state stays formed
    heard_formed : WellFormed after
    heard_formed = formed_hear l h.formed (round_of rec) (source_of rec) (body_of rec) B

    -- the lists stay
    heard_calm : Calm l after
    heard_calm = hear_calm l (round_of rec) (source_of rec) (body_of rec) h.formed.size B.round_low B.round_high

    -- there was none of its round and source, and no vote of it
    unheard : has (heard_mask l (round_of rec)) (source_of rec) ≡ false
    unheard = (first_yes l (round_of rec) (source_of rec) (body_of rec) ok).1

    -- nor in the model
    none : present (records_of m.firsts (round_of rec) (source_of rec)) ≡ false
    none = sym (h.first (round_of rec) (source_of rec)) ∙ first_none l (round_of rec) (source_of rec) unheard

    -- it had no vote
    voteless : has (votes_mask l (round_of rec)) (source_of rec) ≡ false
    voteless = ⊎_elim (λ e. never (h.formed.masks.votes_heard (round_of rec) (source_of rec) B.round_low B.round_high e) unheard) (λ e. e)
        (which (has (votes_mask l (round_of rec)) (source_of rec)))

    -- the others stay
    other : (s q : ℕ) → (eqb (round_of rec) s && eqb (source_of rec) q) ≡ false → firsts after s q ≡ firsts l s q
    other = hear_other l (round_of rec) (source_of rec) (body_of rec) h.formed.size B.round_low B.round_high

    -- the first messages are those of the model
    heard_first : (s q : ℕ) → present (firsts after s q) ≡ present (records_of (rec ∷ m.firsts) s q)
    heard_first = by_record rec (λ s q. present (firsts after s q) ≡ present (records_of (rec ∷ m.firsts) s q))
        (hear_here l (round_of rec) (source_of rec) (body_of rec) h.formed.size B.round_low B.round_high
        ∙ sym (long (body_of rec) B.size) ∙ ap present (sym (records_here rec m.firsts)))
        (λ s q e. ap present (other s q e) ∙ h.first s q ∙ ap present (sym (records_there rec m.firsts s q e)))
      where
        long : (body : List ℕ) → length body ≡ body_size → present body ≡ true
        long [] e = absurd (omega arith)
        long (w ∷ body) e = refl

    -- and so are their votes
    heard_vote : (s q : ℕ) → votes n (s - 1) 0 (firsts after s q) ≡ votes n (s - 1) 0 (records_of (rec ∷ m.firsts) s q)
    heard_vote = by_record rec (λ s q. votes n (s - 1) 0 (firsts after s q) ≡ votes n (s - 1) 0 (records_of (rec ∷ m.firsts) s q))
        (hear_vote l (round_of rec) (source_of rec) (body_of rec) h.formed.size B.round_low B.round_high voteless n (sym h.members)
        ∙ ap (votes n (round_of rec - 1) 0) (sym (records_here rec m.firsts)))
        (λ s q e. ap (votes n (s - 1) 0) (other s q e) ∙ h.vote s q ∙ ap (votes n (s - 1) 0) (sym (records_there rec m.firsts s q e)))

    -- the state holds it then
    first_holds : Either a b m → Either a b further → Holds n after further
    first_holds i j =
        let j' : Part n a b = record {
          model = further;
          inside = j;
          formed = formed n l m h.formed h.members
              h.vertex;
          certified = certified_model n l m h.formed h.members h.vertex;
        } in
        record {
          formed = heard_formed;
          members = calm_members heard_calm ∙ h.members;
          vertex = λ s q.
              ap (λ (v : Records). v s q) (hear_vertices l (round_of rec) (source_of rec) (body_of rec) h.formed.size B.round_low B.round_high)
              ∙ h.vertex s q;
          first = heard_first;
          vote = heard_vote;
          lists = calm_lists n l after further heard_calm heard_formed h.formed
              (at_grow n 1 (part_dag n a b) honest (family n a b honest g P) (part l m i h) j' (committed_round l) (one_taken (committed_round l))
              (leader_list l) (journal_list l)
              (record { vertices = λ s q e. refl; firsts = records_more rec m.firsts none }) h.lists);
        }

    -- and follows the model after all commits
    pub first_follows : Either a b m → Either a b further → Follows n (commit_up_to after most_commits) further
    first_follows i j = commits most_commits after further j (first_holds i j) (omega arith)
