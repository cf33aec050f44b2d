-- The family of all models within one of two, and that the premises of the claim are those of the safety theorem for it. Assumes nothing.
use mathlib.Core.Path.{◌≡◌, refl, sym, ap, ap₂, ◌∙◌}
use mathlib.Core.Bool.{Bool, true}
use mathlib.Core.Logic.{◌⊎◌, inl, inr, ⊎_elim}
use mathlib.Core.List.{List}
use Prim.Native.Nat.{ℕ, zero, suc, ◌-◌, ◌<◌}
use native.Mathlib.Omega.{arith}
use Rattle.record.specs.Members.{legal, leader, has}
use Rattle.record.specs.Layout.{round_of, body_of, no_votes_of, no_votes_for}
use Rattle.record.specs.Admitted.{Certified}
use Rattle.record.proofs.Booleans.{or_cases}
use Rattle.protocol.specs.Dag.{Dag, records_of, held, votes, voter}
use Rattle.protocol.specs.Premises.{ValidVertices, DagPremises}
use Rattle.protocol.proofs.Paths.{parent_present, no_vote_present}
use Rattle.agreement.specs.Model.{Model, dag_of}
use Rattle.agreement.specs.Claim.{Vertex, First, Premises}
use Rattle.pending.specs.Buffer.{In}
use Rattle.agreement.proofs.Records.{Found, find_in}

-- every record of the first model is one of the second
pub record Inside (m a : Model) : Type 0 where
  pub members : a.n ≡ m.n
  pub vertices : (x : List ℕ) → In x m.vertices → In x a.vertices
  pub firsts : (x : List ℕ) → In x m.firsts → In x a.firsts

-- a model lies within itself
pub inside_self : (m : Model) → Inside m m
inside_self m = record { members = refl; vertices = λ x h. h; firsts = λ x h. h }

-- one within another, and that within a third
pub inside_then : {m a b : Model} → Inside m a → Inside a b → Inside m b
inside_then i j = record { members = j.members ∙ i.members; vertices = λ x h. j.vertices x (i.vertices x h); firsts = λ x h. j.firsts x (i.firsts x h) }

-- it lies within a, or within b
abbrev pub Either : Model → Model → Model → Type 0
Either a b m = Inside m a ⊎ Inside m b

-- a model with fewer records does so too
pub either_before : {a b m k : Model} → Inside m k → Either a b k → Either a b m
either_before h i = ⊎_elim (λ x. inl (inside_then h x)) (λ x. inr (inside_then h x)) i

-- one of the family: its vertices are well formed
pub record Part (n : ℕ) (a b : Model) : Type 0 where
  pub model : Model
  pub inside : Either a b model
  pub formed : ValidVertices n (records_of model.vertices)
  pub certified : (r p : ℕ) → held (records_of model.vertices) r p ≡ true → Certified n 1 r p (records_of model.vertices r p)

-- its DAG
abbrev pub part_dag : (n : ℕ) (a b : Model) → Part n a b → Dag
part_dag n a b i = dag_of i.model

module _ (n : ℕ) (a b : Model) (honest : ℕ → Bool) where
  -- its vertices are of either model
  vertex_of_lem : (i : Part n a b) (x : List ℕ) → In x i.model.vertices → Vertex n a b honest x
  vertex_of_lem i x h = ⊎_elim (λ k. inl (k.vertices x h)) (λ k. inr (k.vertices x h)) i.inside

  -- its first messages are too
  first_of : (i : Part n a b) (x : List ℕ) → In x i.model.firsts → First n a b honest x
  first_of i x h = ⊎_elim (λ k. inl (k.firsts x h)) (λ k. inr (k.firsts x h)) i.inside

  module _ (legal-n : legal n ≡ true) (P : Premises n a b honest) where
    -- neither vote nor no-vote of one honest member
    not_both : (i j : Part n a b) (r p m : ℕ) (l : List (List ℕ)) (x : Found l (suc r) p) → Vertex n a b honest x.rec ⊎ First n a b honest x.rec
        → honest p ≡ true → votes n r 0 (records_of l (suc r) p) ≡ true → has (no_votes_of (records_of j.model.vertices (suc r) m)) p ≡ true → ⊥
    not_both i j r p m l x h e v w =
        let y = find_in j.model.vertices (suc r) m (unfold no_votes_for in no_vote_present _ 0 p w) in
        let d : round_of x.rec - 1 ≡ r = omega (arith, x.round) in
        P.no_both x.rec y.rec h (vertex_of_lem j y.rec y.there) (x.round ∙ sym y.round) (ap honest x.source ∙ e)
        (ap₂ (λ (s : ℕ) (body : List ℕ). votes n s 0 body) d (sym x.body) ∙ v)
        (ap₂ (λ (body : List ℕ) (s : ℕ). has (no_votes_of body) s) (sym y.body) x.source ∙ w)

    -- so with the votes that make a voter
    voter_both : (i j : Part n a b) (r p m : ℕ) → honest p ≡ true → voter n (part_dag n a b i) r 0 p ≡ true
        → has (no_votes_of (records_of j.model.vertices (suc r) m)) p ≡ true → ⊥
    unfolding voter
    voter_both i j r p m e v w = ⊎_elim
        (λ d. let x = find_in i.model.vertices (suc r) p (parent_present _ (leader n r) d) in
        not_both i j r p m i.model.vertices x (inl (vertex_of_lem i _ x.there)) e d w)
        (λ d. let x = find_in i.model.firsts (suc r) p (parent_present _ (leader n r) d) in
        not_both i j r p m i.model.firsts x (inr (first_of i _ x.there)) e d w)
        (or_cases _ _ v)

    -- with one leader a round
    one_both : (i j : Part n a b) (r x p m : ℕ) → x < 1 → honest p ≡ true → voter n (part_dag n a b i) r x p ≡ true
        → has (no_votes_for (records_of j.model.vertices (suc r) m) x) p ≡ true → ⊥
    unfolding no_votes_for
    one_both i j r zero p m l e v w = voter_both i j r p m e v w
    one_both i j r (suc x) p m l e v w = absurd (omega arith)

    -- the premises of the safety theorem
    pub family : DagPremises n 1 (part_dag n a b) honest
    family = record {
      members = legal-n;
      main_leader = omega arith;
      well_formed = λ i. i.formed;
      certified = λ i. i.certified;
      few_faulty = P.few_faulty;
      one_vertex = λ i j r p hi hj.
          let x = find_in i.model.vertices r p hi in
          let y = find_in j.model.vertices r p hj in
          x.body ∙ ap body_of (P.one_vertex x.rec y.rec (vertex_of_lem i _ x.there) (vertex_of_lem j _ y.there)
          (record { round = x.round ∙ sym y.round; source = x.source ∙ sym y.source })) ∙ sym y.body;
      one_record = λ i j r p e hi hj.
          let x = find_in i.model.firsts r p hi in
          let y = find_in j.model.vertices r p hj in
          x.body ∙ ap body_of (P.one_record x.rec y.rec (first_of i _ x.there) (vertex_of_lem j _ y.there)
          (record { round = x.round ∙ sym y.round; source = x.source ∙ sym y.source }) (ap honest x.source ∙ e)) ∙ sym y.body;
      no_both = one_both;
    }
