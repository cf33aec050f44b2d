-- Laws of strong paths, and the key lemma: strong paths lead to a backed leader's vertex from every later main leader's vertex, in every DAG of the family.
use mathlib.Core.Path.{◌≡◌, refl, sym, ap, ap₂, ◌∙◌, subst}
use mathlib.Core.Bool.{Bool, true, false, cond, not, ◌&&◌, false≢true}
use mathlib.Core.Logic.{◌⊎◌, inl, inr}
use mathlib.Core.List.{List, [], ◌∷◌}
use Prim.Native.Nat.{ℕ, zero, suc, ◌+◌, ◌*◌, ◌≤◌, ◌<◌}
use native.Mathlib.Nat.{eq-or-lt_of_le, not-suc-le-zero}
use native.Mathlib.Numerals.{unary_clauses}
use native.Mathlib.Omega.{arith}
use lib.Dec.{eqb}
use borrow.Author.Tests.{eqb-true, eq-eqb, ne_eqb, leb-true}
use Rattle.record.specs.Below.{any, count}
use Rattle.record.specs.Members.{faulty, quorum, has, leader_at}
use Rattle.record.specs.Layout.{strong_of, weak_count_of, no_votes_of, no_votes_for}
use Rattle.record.proofs.Booleans.{which, never, and_left, and_right, and_both, or_cases, and_cong}
use Rattle.record.proofs.Below.{any_intro, any_elim, any_cong, count_pos, meet}
use Rattle.record.proofs.Masks.{legal_range, has_zero, leader_at_lt}
use Rattle.protocol.specs.Dag.{Records, Dag, present, held, votes, voter, backed}
use Rattle.protocol.specs.Paths.{path, reaches}
use Rattle.protocol.specs.Premises.{ValidVertices, DagPremises}
use Rattle.protocol.specs.Claims.{KeyLemma}

-- a body with a parent, a no-vote or a weak id is there
pub parent_present : (body : List ℕ) (m : ℕ) → has (strong_of body) m ≡ true → present body ≡ true
unfolding strong_of
parent_present [] m e = never e (has_zero m)
parent_present (w ∷ body) m e = refl

pub no_vote_present : (body : List ℕ) (i m : ℕ) → has (no_votes_for body i) m ≡ true → present body ≡ true
unfolding no_votes_for no_votes_of
no_vote_present [] zero m e = never e (has_zero m)
no_vote_present [] (suc i) m e = never e (has_zero m)
no_vote_present (w ∷ body) i m e = refl

pub weak_present : (body : List ℕ) (i : ℕ) → i < weak_count_of body → present body ≡ true
unfolding weak_count_of
weak_present [] i l = absurd (omega arith)
weak_present (w ∷ body) i l = refl

-- ---- the laws of `path`

-- a path of no edges
pub path_self : (n : ℕ) (v : Records) (r p : ℕ) → zero < r → held v r p ≡ true → path n v r p r p ≡ true
unfolding path
path_self n v zero p l h = absurd (not-suc-le-zero l)
path_self n v (suc r) p l h = rw (eq-eqb (suc r) (suc r) refl, eq-eqb p p refl) h

-- an edge, then a path
pub path_edge : (n : ℕ) (v : Records) (r p m t q : ℕ) → t ≤ r → m < n → has (strong_of (v (suc r) p)) m ≡ true → path n v r m t q ≡ true
    → path n v (suc r) p t q ≡ true
unfolding path
path_edge n v r p m t q l lm e h = rw (ne_eqb (suc r) t (λ s. omega arith)) (any_intro n _ m lm (and_both e h))

-- a path ends at a held vertex
pub path_held : (n : ℕ) (v : Records) (r p t q : ℕ) → path n v r p t q ≡ true → held v t q ≡ true
unfolding path
path_held n v zero p t q e = absurd (false≢true e)
path_held n v (suc r) p t q e = go (which (eqb (suc r) t)) (λ m. path_held n v r m t q)
  where
    go : (eqb (suc r) t ≡ true) ⊎ (eqb (suc r) t ≡ false) → ((m : ℕ) → path n v r m t q ≡ true → held v t q ≡ true) → held v t q ≡ true
    go (inl s) ih =
        let h : (eqb p q && held v (suc r) p) ≡ true = rw s at e in
        rw (← eqb-true (suc r) t s, ← eqb-true p q (and_left _ _ h)) (and_right (eqb p q) _ h)
    go (inr s) ih =
        let h : any n (λ m. has (strong_of (v (suc r) p)) m && path n v r m t q) ≡ true = rw s at e in
        let w = any_elim n _ h in
        ih w.0 (and_right (has (strong_of (v (suc r) p)) w.0) _ w.2)

-- a strong parent of a vertex of round r + 1 is held in round r
pub parent_held : (n : ℕ) (v : Records) → ValidVertices n v → (r p s : ℕ) → has (strong_of (v (suc r) p)) s ≡ true → held v r s ≡ true
parent_held n v W r p s e = simp unary_clauses at (W.strong_held (suc r) p s e)

-- two quorums of n members meet in a member of any set that lacks at most f
quorums_meet : (n f : ℕ) → n ≡ 3 * f + 1 → (s t h : ℕ → Bool) → 2 * f + 1 ≤ count n s → 2 * f + 1 ≤ count n t → count n (λ p. not (h p)) ≤ f
    → (p : ℕ) × (p < n) × (s p ≡ true) × (t p ≡ true) × (h p ≡ true)
quorums_meet n f e s t h = subst
    (λ (x : ℕ). 2 * f + 1 ≤ count x s → 2 * f + 1 ≤ count x t → count x (λ p. not (h p)) ≤ f → (p : ℕ) × (p < x) × (s p ≡ true) × (t p ≡ true) × (h p ≡ true))
    (sym e) (meet f s t h)

module _ (n m : ℕ) {I : Type 0} (dag : I → Dag) (honest : ℕ → Bool) (P : DagPremises n m dag honest) where
  -- from a vertex that two DAGs hold the same paths lead in both
  pub path_same : (i j : I) (r p t q : ℕ) → held (dag i).vertex r p ≡ true → held (dag j).vertex r p ≡ true
      → path n (dag i).vertex r p t q ≡ path n (dag j).vertex r p t q
  unfolding path
  path_same i j zero p t q hi hj = refl
  path_same i j (suc r) p t q hi hj =
      let e = P.one_vertex i j (suc r) p hi hj in
      ap₂ (cond (eqb (suc r) t)) (ap (λ h. eqb p q && h) (hi ∙ sym hj))
      (any_cong n _ _ (λ m l. and_cong (ap (λ x. has (strong_of x) m) e) (λ s.
      path_same i j r m t q (parent_held n _ (P.well_formed i) r p m s) (parent_held n _ (P.well_formed j) r p m (rw e at s)))))

  -- two quorums meet in an honest member
  honest_meet : (s t : ℕ → Bool) → quorum n ≤ count n s → quorum n ≤ count n t → (p : ℕ) × (p < n) × (s p ≡ true) × (t p ≡ true) × (honest p ≡ true)
  honest_meet s t a b = quorums_meet n (faulty n) (legal_range n P.members).thirds s t honest a b P.few_faulty

  leader_low : (r x : ℕ) → leader_at n r x < n
  leader_low r x = leader_at_lt n r x (omega (arith, (legal_range n P.members).low))

  -- the voters of a backed leader are a quorum: all that is used of how votes are counted
  voters : (i : I) (q x : ℕ) → backed n (dag i) q x ≡ true → quorum n ≤ count n (voter n (dag i) q x)
  unfolding backed
  voters i q x c = leb-true _ _ (and_right (held (dag i).vertex q (leader_at n q x)) _ c)

  -- an honest voter's vertex, in any DAG that holds it, votes
  voter_votes : (i j : I) (q x p : ℕ) → honest p ≡ true → held (dag j).vertex (suc q) p ≡ true
      → voter n (dag i) q x p ≡ true → votes n q x ((dag j).vertex (suc q) p) ≡ true
  unfolding voter
  voter_votes i j q x p hp hj v = go (or_cases (votes n q x ((dag i).vertex (suc q) p)) (votes n q x ((dag i).first (suc q) p)) v)
    where
      go : (votes n q x ((dag i).vertex (suc q) p) ≡ true) ⊎ (votes n q x ((dag i).first (suc q) p) ≡ true) → votes n q x ((dag j).vertex (suc q) p) ≡ true
      go (inl e) = rw (P.one_vertex i j (suc q) p (parent_present _ (leader_at n q x) e) hj) at e
      go (inr e) = rw (P.one_record i j (suc q) p hp (parent_present _ (leader_at n q x) e) hj) at e

  -- the next main leader's vertex has an edge to a backed leader's vertex: its no-vote certificate against it would meet the voters
  next : (i j : I) (q x : ℕ) → zero < q → x < m → backed n (dag i) q x ≡ true → held (dag j).vertex (suc q) (leader_at n (suc q) 0) ≡ true
      → has (strong_of ((dag j).vertex (suc q) (leader_at n (suc q) 0))) (leader_at n q x) ≡ true
  next i j q x l lx c h = go (which (has (strong_of ((dag j).vertex (suc q) (leader_at n (suc q) 0))) (leader_at n q x)))
    where
      go : (has (strong_of ((dag j).vertex (suc q) (leader_at n (suc q) 0))) (leader_at n q x) ≡ true)
          ⊎ (has (strong_of ((dag j).vertex (suc q) (leader_at n (suc q) 0))) (leader_at n q x) ≡ false)
          → has (strong_of ((dag j).vertex (suc q) (leader_at n (suc q) 0))) (leader_at n q x) ≡ true
      go (inl e) = e
      go (inr e) =
          let a = P.certified j (suc q) (leader_at n (suc q) 0) h in
          let w = honest_meet (voter n (dag i) q x) (has (no_votes_for ((dag j).vertex (suc q) (leader_at n (suc q) 0)) x)) (voters i q x c)
          (a.no_vote_quorum x lx (omega arith) (simp unary_clauses e) refl) in
          absurd (P.no_both i j q x w.0 (leader_at n (suc q) 0) lx w.4 w.2 w.3)

  -- every vertex two rounds above a backed leader has a path to it
  two : (i j : I) (q x p : ℕ) → zero < q → backed n (dag i) q x ≡ true → held (dag j).vertex (suc (suc q)) p ≡ true
      → path n (dag j).vertex (suc (suc q)) p q (leader_at n q x) ≡ true
  two i j q x p l c h =
      let W = P.well_formed j in
      let w = honest_meet (voter n (dag i) q x) (has (strong_of ((dag j).vertex (suc (suc q)) p))) (voters i q x c)
      ((W.admitted (suc (suc q)) p h).strong_later (omega arith)) in
      let e : votes n q x ((dag j).vertex (suc q) w.0) ≡ true = voter_votes i j q x w.0 w.4 (parent_held n _ W (suc q) p w.0 w.3) w.2 in
      path_edge n (dag j).vertex (suc q) p w.0 q (leader_at n q x) (omega arith) w.1 w.3
      (path_edge n (dag j).vertex q w.0 (leader_at n q x) q (leader_at n q x) (omega arith) (leader_low q x) e
      (path_self n (dag j).vertex q (leader_at n q x) l (parent_held n _ W q w.0 (leader_at n q x) e)))

  -- and every vertex more rounds above it
  later : (i j : I) (q x : ℕ) → zero < q → backed n (dag i) q x ≡ true → (r p : ℕ) → suc q < r → held (dag j).vertex r p ≡ true
      → path n (dag j).vertex r p q (leader_at n q x) ≡ true
  later i j q x l c zero p k h = absurd (not-suc-le-zero k)
  later i j q x l c (suc r) p k h = go (eq-or-lt_of_le k) (later i j q x l c r)
    where
      go : (suc (suc q) ≡ suc r) ⊎ (suc (suc q) < suc r)
          → ((m : ℕ) → suc q < r → held (dag j).vertex r m ≡ true → path n (dag j).vertex r m q (leader_at n q x) ≡ true)
          → path n (dag j).vertex (suc r) p q (leader_at n q x) ≡ true
      go (inl e) ih = subst (λ (y : ℕ). held (dag j).vertex y p ≡ true → path n (dag j).vertex y p q (leader_at n q x) ≡ true) e (two i j q x p l c) h
      go (inr k') ih =
          let s = ((P.well_formed j).admitted (suc r) p h).strong_later (omega arith) in
          let w = count_pos n (has (strong_of ((dag j).vertex (suc r) p))) (omega arith) in
          path_edge n (dag j).vertex r p w.0 q (leader_at n q x) (omega arith) w.1 w.2
          (ih w.0 (omega arith) (parent_held n _ (P.well_formed j) r p w.0 w.2))

  -- The key lemma.
  pub key : KeyLemma n m dag
  key i j q x zero l lx c k h = absurd (not-suc-le-zero k)
  key i j q x (suc r) l lx c k h = go (eq-or-lt_of_le k)
    where
      go : (suc q ≡ suc r) ⊎ (suc q < suc r) → reaches n (dag j).vertex (suc r) q x ≡ true
      go (inl e) = subst (λ (y : ℕ). held (dag j).vertex y (leader_at n y 0) ≡ true → reaches n (dag j).vertex y q x ≡ true) e one h
        where
          one : held (dag j).vertex (suc q) (leader_at n (suc q) 0) ≡ true → reaches n (dag j).vertex (suc q) q x ≡ true
          one h' =
              let e' = next i j q x l lx c h' in
              path_edge n (dag j).vertex q (leader_at n (suc q) 0) (leader_at n q x) q (leader_at n q x) (omega arith) (leader_low q x) e'
              (path_self n (dag j).vertex q (leader_at n q x) l (parent_held n _ (P.well_formed j) q (leader_at n (suc q) 0) (leader_at n q x) e'))
      go (inr k') = later i j q x l c (suc r) (leader_at n (suc r) 0) k' h
