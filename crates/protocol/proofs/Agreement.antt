-- Growth of chains and journals from one settled place to a later one, agreement, and the safety theorem.
use mathlib.Core.Path.{◌≡◌, refl, ap, ◌∙◌}
use mathlib.Core.Bool.{Bool, true}
use mathlib.Core.Logic.{inl, inr, ⊎_elim}
use mathlib.Core.List.{List, [], ◌++◌}
use Prim.Native.Nat.{ℕ, zero, ◌<◌}
use native.Mathlib.Nat.{eq-zero-or-pos}
use native.Mathlib.Omega.{arith}
use Rattle.record.specs.Members.{leader_at}
use Rattle.protocol.specs.Dag.{Dag, held, last, direct}
use Rattle.protocol.specs.Paths.{reaches}
use Rattle.protocol.specs.Chain.{chain, leaders}
use Rattle.protocol.specs.Journal.{extend, journal_of, journal}
use Rattle.protocol.specs.Premises.{DagPremises}
use Rattle.protocol.specs.Claims.{Prefix, Settled, Before, Growth, Agreement, Safety}
use Rattle.protocol.proofs.Paths.{path_held, key}
use Rattle.protocol.proofs.Commit.{settled_backed, settled_held, settled_low, settled_none, last_settled, before_total}
use Rattle.protocol.proofs.Chain.{chain_self, chain_split, chain_longer, chain_same, chain_held}
use Rattle.protocol.proofs.Journal.{extend_none, extend_append, extend_prefix, extend_same}

module _ (n m : ℕ) {I : Type 0} (dag : I → Dag) (honest : ℕ → Bool) (P : DagPremises n m dag honest) where
  -- the main leader's vertex of a settled place is held
  main_held : (i : I) (c a : ℕ) → Settled n m (dag i) c a → zero < c → held (dag i).vertex c (leader_at n c 0) ≡ true
  main_held i c a S pos = settled_held n m (dag i) c a S 0 (S.some pos)

  -- paths lead to the leaders of a settled place from every later main leader's vertex, in every DAG
  settled_reached : (i j : I) (c a : ℕ) → Settled n m (dag i) c a → zero < c → (r x : ℕ) → x < a → c < r → held (dag j).vertex r (leader_at n r 0) ≡ true
      → reaches n (dag j).vertex r c x ≡ true
  settled_reached i j c a S pos r x lx l h = key n m dag honest P i j c x r pos (omega (arith, settled_low n m (dag i) c a S))
      (settled_backed n m (dag i) c a S x lx) l h

  -- what is settled in one DAG, every DAG that has a settled place not before it holds
  pub settled_there : (i j : I) (c a q b : ℕ) → Settled n m (dag i) c a → Settled n m (dag j) q b → Before c a q b → zero < c
      → (x : ℕ) → x < a → held (dag j).vertex c (leader_at n c x) ≡ true
  settled_there i j c a q b S T (inl l) pos x lx = path_held n (dag j).vertex q _ c _
      (settled_reached i j c a S pos q x lx l (main_held j q b T (omega arith)))
  settled_there i j c a q b S T (inr w) pos x lx = rw w.0 (settled_held n m (dag j) q b T x (omega (arith, w.1)))

  -- two DAGs that hold the first a leaders of round c make the same chain and the same journal of that place
  module _ (i j : I) (c a : ℕ) (pos : zero < c) (some : zero < a)
      (hi : (x : ℕ) → x < a → held (dag i).vertex c (leader_at n c x) ≡ true) (hj : (x : ℕ) → x < a → held (dag j).vertex c (leader_at n c x) ≡ true) where
    place_chain : chain n m (dag i).vertex 0 0 c a ≡ chain n m (dag j).vertex 0 0 c a
    place_chain = chain_same n m dag honest P i j 0 0 c a (hi 0 some) (hj 0 some)

    place_journal : journal_of n m (dag i).vertex c a ≡ journal_of n m (dag j).vertex c a
    place_journal =
        extend_same n m dag honest P i j [] (chain n m (dag i).vertex 0 0 c a)
        (λ y e. (chain_held n m (dag i).vertex P.members 0 0 c a y (omega arith) hi e).0)
        (λ y e. (chain_held n m (dag j).vertex P.members 0 0 c a y (omega arith) hj (rw place_chain at e)).0)
        ∙ ap (extend n (dag j).vertex []) place_chain

  -- in one DAG, the chain of a later place begins with that of a settled one
  split : (i j : I) (c a q b : ℕ) → Settled n m (dag i) c a → Settled n m (dag j) q b → Before c a q b → zero < c
      → chain n m (dag j).vertex 0 0 q b ≡ chain n m (dag j).vertex 0 0 c a ++ chain n m (dag j).vertex c a q b
  split i j c a q b S T (inl l) pos =
      chain_split n m (dag j).vertex c a pos (S.some pos) (settled_low n m (dag i) c a S) (settled_reached i j c a S pos) q b l
      (main_held j q b T (omega arith))
  split i j c a q b S T (inr w) pos = rw w.0 (chain_longer n m (dag j).vertex q a b (omega (arith, w.0)) w.1)

  -- The chain and the journal of a settled place grow, in any DAG, to those of a later one.
  pub growth : Growth n m dag
  growth i j c a q b S T B = ⊎_elim (λ e. from_none e) (λ pos. from pos) (eq-zero-or-pos c)
    where
      -- from the place (0, 0)
      from_none : c ≡ 0
          → (chain n m (dag j).vertex 0 0 q b ≡ chain n m (dag i).vertex 0 0 c a ++ chain n m (dag j).vertex c a q b)
          × (journal_of n m (dag j).vertex q b ≡ extend n (dag j).vertex (journal_of n m (dag i).vertex c a) (chain n m (dag j).vertex c a q b))
      from_none e =
          let z : a ≡ 0 = settled_none n m (dag i) a (rw e at S) in
          rw (e, z, chain_self n m (dag i).vertex 0 0, extend_none n (dag i).vertex []) (refl, refl)

      from : zero < c
          → (chain n m (dag j).vertex 0 0 q b ≡ chain n m (dag i).vertex 0 0 c a ++ chain n m (dag j).vertex c a q b)
          × (journal_of n m (dag j).vertex q b ≡ extend n (dag j).vertex (journal_of n m (dag i).vertex c a) (chain n m (dag j).vertex c a q b))
      from pos =
          let w = (dag j).vertex in
          let added = chain n m w c a q b in
          let hi = settled_held n m (dag i) c a S in
          let hj = settled_there i j c a q b S T B pos in
          let s : chain n m w 0 0 q b ≡ chain n m w 0 0 c a ++ added = split i j c a q b S T B pos in (
            s ∙ ap (λ (x : List ℕ). x ++ added) (place_chain j i c a pos (S.some pos) hj hi),
            ap (extend n w []) s ∙ extend_append n w [] (chain n m w 0 0 c a) added
                ∙ ap (λ (x : List ℕ). extend n w x added) (place_journal j i c a pos (S.some pos) hj hi),
          )

  -- the lists of two DAGs, where the second one's last place is not before the first one's
  pub ordered : (i j : I) → Before (last n (dag i)) (direct n m (dag i) (last n (dag i))) (last n (dag j)) (direct n m (dag j) (last n (dag j)))
      → Prefix (leaders n m (dag i)) (leaders n m (dag j)) × Prefix (journal n m (dag i)) (journal n m (dag j))
  ordered i j B =
      let g = growth i j _ _ _ _ (last_settled n m (dag i) P.main_leader) (last_settled n m (dag j) P.main_leader) B in
      let more = extend_prefix n (dag j).vertex (journal n m (dag i))
      (chain n m (dag j).vertex (last n (dag i)) (direct n m (dag i) (last n (dag i))) (last n (dag j)) (direct n m (dag j) (last n (dag j)))) in
      ((_, g.0), (more.0, g.1 ∙ more.1))

  -- the later last place has the longer lists
  pub agreement : Agreement n m dag
  agreement i j = ⊎_elim (λ B. inl (ordered i j B)) (λ B. inr (ordered j i B))
      (before_total (last n (dag i)) (direct n m (dag i) (last n (dag i))) (last n (dag j)) (direct n m (dag j) (last n (dag j))))

-- The safety theorem.
pub safety : Safety
safety n m I dag honest P = (key n m dag honest P, growth n m dag honest P, agreement n m dag honest P)
