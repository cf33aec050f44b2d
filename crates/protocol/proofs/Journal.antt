-- Laws of the journal: how it is extended, what it names, and where two DAGs make the same of a list of leaders.
use mathlib.Core.Path.{◌≡◌, refl, sym, ap, ap₂, ◌∙◌}
use mathlib.Core.Bool.{Bool, true, false, not, ◌&&◌, ◌||◌, false≢true}
use mathlib.Core.Logic.{◌⊎◌, inl, inr, ⊎_elim}
use mathlib.Core.List.{List, [], ◌∷◌, ◌++◌, append-nil, append_assoc}
use Prim.Native.Nat.{ℕ, zero, suc, ◌-◌, ◌<◌}
use lib.Dec.{eqb, ltb}
use borrow.Author.Tests.{lt-ltb, ltb-true, eqb-true, eq-eqb, not-true}
use Rattle.record.specs.Below.{any}
use Rattle.record.specs.Members.{has, id_of, id_round, id_member, id_limit}
use Rattle.record.specs.Layout.{strong_of, weak_count_of, weak_of}
use Rattle.record.proofs.Booleans.{which, never, and_left, and_right, and_both, and_cong, or_cases, or_left, or_right}
use Rattle.record.proofs.Below.{any_cong, select_cong}
use Rattle.protocol.specs.Dag.{Records, Dag, held}
use Rattle.protocol.specs.Paths.{history_up_to, history}
use Rattle.protocol.specs.Journal.{among, fresh, extend}
use Rattle.protocol.specs.Premises.{DagPremises}
use Rattle.protocol.specs.Claims.{Prefix}
use Rattle.protocol.proofs.Lists.{among_append, among_select, once, once_append, once_select}

module _ (n : ℕ) (v : Records) where
  -- ---- extending

  -- no leader, one, and several
  pub extend_none : (j : List ℕ) → extend n v j [] ≡ j
  unfolding extend
  extend_none j = refl

  pub extend_one : (j : List ℕ) (r : ℕ) → extend n v j (r ∷ []) ≡ j ++ fresh n v j r
  unfolding extend
  extend_one j r = refl

  pub extend_append : (j rs ss : List ℕ) → extend n v j (rs ++ ss) ≡ extend n v (extend n v j rs) ss
  unfolding extend
  extend_append j [] ss = refl
  extend_append j (r ∷ rs) ss = extend_append (j ++ fresh n v j r) rs ss

  -- a journal only grows
  pub extend_prefix : (j rs : List ℕ) → Prefix j (extend n v j rs)
  unfolding extend
  extend_prefix j [] = ([], sym (append-nil j))
  extend_prefix j (r ∷ rs) = let t = extend_prefix (j ++ fresh n v j r) rs in (_, t.1 ∙ append_assoc j _ _)

  -- ---- what it names

  -- what is fresh: ids of the history that the journal lacks
  pub fresh_among : (j : List ℕ) (r y : ℕ) → among (fresh n v j r) y ≡ (ltb y id_limit && (not (among j y) && history n v (id_round r) (id_member r) y))
  unfolding fresh
  fresh_among j r y = among_select id_limit (λ y. not (among j y) && history n v (id_round r) (id_member r) y) y

  -- what a journal names it goes on naming
  pub extend_keeps : (j rs : List ℕ) (y : ℕ) → among j y ≡ true → among (extend n v j rs) y ≡ true
  extend_keeps j rs y e = let t = extend_prefix j rs in rw t.1 (among_append j t.0 y ∙ or_left _ e)

  -- a new id is of the history of one of the leaders
  pub extend_new : (j rs : List ℕ) (y : ℕ) → among (extend n v j rs) y ≡ true → among j y ≡ false
      → (r : ℕ) × (among rs r ≡ true) × (history n v (id_round r) (id_member r) y ≡ true) × (y < id_limit)
  unfolding extend among
  extend_new j [] y e h = never e h
  extend_new j (r ∷ rs) y e h = go (which (among (fresh n v j r) y)) (extend_new (j ++ fresh n v j r) rs y e)
    where
      go : (among (fresh n v j r) y ≡ true) ⊎ (among (fresh n v j r) y ≡ false)
          → (among (j ++ fresh n v j r) y ≡ false → (s : ℕ) × (among rs s ≡ true) × (history n v (id_round s) (id_member s) y ≡ true) × (y < id_limit))
          → (s : ℕ) × (among (r ∷ rs) s ≡ true) × (history n v (id_round s) (id_member s) y ≡ true) × (y < id_limit)
      go (inl d) ih =
          let f : (ltb y id_limit && (not (among j y) && history n v (id_round r) (id_member r) y)) ≡ true = sym (fresh_among j r y) ∙ d in
          (r, or_left _ (eq-eqb r r refl), and_right (not (among j y)) _ (and_right (ltb y id_limit) _ f), ltb-true y id_limit (and_left _ _ f))
      go (inr d) ih =
          let w = ih (among_append j (fresh n v j r) y ∙ ap₂ ◌||◌ h d) in
          (w.0, or_right (eqb r w.0) w.1, w.2, w.3)

  -- an id of a leader's history is there afterwards
  pub fresh_all : (j : List ℕ) (r y : ℕ) → history n v (id_round r) (id_member r) y ≡ true → y < id_limit → among (j ++ fresh n v j r) y ≡ true
  fresh_all j r y h l = among_append j (fresh n v j r) y ∙ go (which (among j y))
    where
      go : (among j y ≡ true) ⊎ (among j y ≡ false) → (among j y || among (fresh n v j r) y) ≡ true
      go (inl e) = or_left _ e
      go (inr e) = or_right (among j y) (fresh_among j r y ∙ and_both (lt-ltb y id_limit l) (and_both (ap not e) h))

  -- so for each leader of a list
  pub extend_all : (j rs : List ℕ) (r y : ℕ) → among rs r ≡ true → history n v (id_round r) (id_member r) y ≡ true → y < id_limit
      → among (extend n v j rs) y ≡ true
  unfolding extend among
  extend_all j [] r y e h l = absurd (false≢true e)
  extend_all j (s ∷ rs) r y e h l = ⊎_elim
      (λ d. extend_keeps (j ++ fresh n v j s) rs y (fresh_all j s y (rw (eqb-true s r d) h) l))
      (λ d. extend_all (j ++ fresh n v j s) rs r y d h l)
      (or_cases _ _ e)

  -- no id twice
  pub fresh_once : (j : List ℕ) (r : ℕ) → once j ≡ true → once (j ++ fresh n v j r) ≡ true
  fresh_once j r p = once_append j (fresh n v j r) p (alone j r) (λ y e. apart y e (which (among (fresh n v j r) y)))
    where
      alone : (j : List ℕ) (r : ℕ) → once (fresh n v j r) ≡ true
      alone j r = unfold fresh in once_select id_limit (λ y. not (among j y) && history n v (id_round r) (id_member r) y)

      apart : (y : ℕ) → among j y ≡ true → (among (fresh n v j r) y ≡ true) ⊎ (among (fresh n v j r) y ≡ false) → among (fresh n v j r) y ≡ false
      apart y e (inl d) =
          let f : (ltb y id_limit && (not (among j y) && history n v (id_round r) (id_member r) y)) ≡ true = sym (fresh_among j r y) ∙ d in
          never e (not-true (among j y) (and_left _ _ (and_right (ltb y id_limit) _ f)))
      apart y e (inr d) = d

  -- so for a list of leaders
  pub extend_once : (j rs : List ℕ) → once j ≡ true → once (extend n v j rs) ≡ true
  unfolding extend
  extend_once j [] p = p
  extend_once j (r ∷ rs) p = extend_once (j ++ fresh n v j r) rs (fresh_once j r p)

-- ---- over a family

module _ (n m : ℕ) {I : Type 0} (dag : I → Dag) (honest : ℕ → Bool) (P : DagPremises n m dag honest) where
  -- a vertex that two DAGs hold has the same history in both
  pub history_same : (i j : I) (k r p y : ℕ) → held (dag i).vertex r p ≡ true → held (dag j).vertex r p ≡ true
      → history_up_to n (dag i).vertex k r p y ≡ history_up_to n (dag j).vertex k r p y
  unfolding history_up_to
  history_same i j zero r p y hi hj = refl
  history_same i j (suc k) r p y hi hj =
      let e = P.one_vertex i j r p hi hj in
      ap₂ (λ s w. eqb (id_of r p) y || (s || w))
      (any_cong n _ _ (λ m l. and_cong (ap (λ x. has (strong_of x) m) e) (λ s.
      history_same i j k (r - 1) m y ((P.well_formed i).strong_held r p m s) ((P.well_formed j).strong_held r p m (rw e at s)))))
      (any_cong (weak_count_of ((dag i).vertex r p)) _ _ (λ x l.
      history_same i j k _ _ y ((P.well_formed i).weak_held r p x l) (rw e ((P.well_formed j).weak_held r p x (rw e at l))))
      ∙ ap (λ (b : List ℕ). any (weak_count_of b) (λ x. history_up_to n (dag j).vertex k (id_round (weak_of b x)) (id_member (weak_of b x)) y)) e)

  fresh_same : (i j : I) (acc : List ℕ) (x : ℕ) → held (dag i).vertex (id_round x) (id_member x) ≡ true → held (dag j).vertex (id_round x) (id_member x) ≡ true
      → fresh n (dag i).vertex acc x ≡ fresh n (dag j).vertex acc x
  unfolding fresh
  fresh_same i j acc x hi hj =
      select_cong id_limit _ _ (λ y l. ap (λ h. not (among acc y) && h) (history_same i j (id_round x) (id_round x) (id_member x) y hi hj))

  -- of leaders that both hold, two DAGs make the same journal
  pub extend_same : (i j : I) (acc xs : List ℕ)
      → ((y : ℕ) → among xs y ≡ true → held (dag i).vertex (id_round y) (id_member y) ≡ true)
      → ((y : ℕ) → among xs y ≡ true → held (dag j).vertex (id_round y) (id_member y) ≡ true)
      → extend n (dag i).vertex acc xs ≡ extend n (dag j).vertex acc xs
  unfolding extend among
  extend_same i j acc [] hi hj = refl
  extend_same i j acc (x ∷ xs) hi hj =
      ap (λ (l : List ℕ). extend n (dag i).vertex (acc ++ l) xs)
      (fresh_same i j acc x (hi x (or_left _ (eq-eqb x x refl))) (hj x (or_left _ (eq-eqb x x refl))))
      ∙ extend_same i j (acc ++ fresh n (dag j).vertex acc x) xs (λ y e. hi y (or_right (eqb x y) e)) (λ y e. hj y (or_right (eqb x y) e))
