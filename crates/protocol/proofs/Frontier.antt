-- Paths by sets: what a vertex reaches in round t are the strong parents of what it reaches in round t + 1.
use mathlib.Core.Path.{◌≡◌, refl, sym, ap, ◌∙◌}
use mathlib.Core.Bool.{Bool, true, false, ◌&&◌, ◌||◌, false≢true, or-false}
use mathlib.Core.Logic.{◌⊎◌, inl, inr}
use Prim.Native.Nat.{ℕ, zero, suc, ◌≤◌, ◌<◌}
use native.Mathlib.Nat.{eq-or-lt_of_le, not-suc-le-zero}
use native.Mathlib.Omega.{arith}
use lib.Dec.{eqb}
use borrow.Author.Tests.{eqb-true, ne_eqb, eq-eqb}
use Rattle.record.specs.Below.{any}
use Rattle.record.specs.Members.{has}
use Rattle.record.specs.Layout.{strong_of}
use Rattle.record.proofs.Booleans.{which, and_left, and_right, and_both, bool_ext}
use Rattle.record.proofs.Below.{any_intro, any_elim, any_cong}
use Rattle.record.proofs.Masks.{has_zero, has_or}
use Rattle.protocol.specs.Dag.{Records, held}
use Rattle.protocol.specs.Paths.{path}
use Rattle.protocol.specs.Premises.{ValidVertices}
use Rattle.protocol.specs.Masks.{parents, ParentsClaim}
use Rattle.protocol.proofs.Paths.{parent_present, parent_held, path_self, path_edge}

module _ (n : ℕ) (v : Records) where
  -- the first edge of a path to a lower round
  pub first_edge : (r p t q : ℕ) → t ≤ r → path n v (suc r) p t q ≡ true
      → (m : ℕ) × (m < n) × (has (strong_of (v (suc r) p)) m ≡ true) × (path n v r m t q ≡ true)
  unfolding path
  first_edge r p t q l e =
      let h : any n (λ m. has (strong_of (v (suc r) p)) m && path n v r m t q) ≡ true = rw (ne_eqb (suc r) t (λ s. omega arith)) at e in
      let w = any_elim n _ h in
      (w.0, w.1, and_left _ _ w.2, and_right (has (strong_of (v (suc r) p)) w.0) _ w.2)

  -- a path within one round has no edge
  pub path_here : (r p q : ℕ) → path n v r p r q ≡ true → p ≡ q
  unfolding path
  path_here zero p q e = absurd (false≢true e)
  path_here (suc r) p q e =
      let h : (eqb p q && held v (suc r) p) ≡ true = rw (eq-eqb (suc r) (suc r) refl) at e in
      eqb-true p q (and_left _ _ h)

  -- paths go down
  pub path_le : (r p t q : ℕ) → path n v r p t q ≡ true → t ≤ r
  unfolding path
  path_le zero p t q e = absurd (false≢true e)
  path_le (suc r) p t q e = go (which (eqb (suc r) t)) (λ m. path_le r m t q)
    where
      go : (eqb (suc r) t ≡ true) ⊎ (eqb (suc r) t ≡ false) → ((m : ℕ) → path n v r m t q ≡ true → t ≤ r) → t ≤ suc r
      go (inl s) ih = omega (arith, eqb-true (suc r) t s)
      go (inr s) ih =
          let h : any n (λ m. has (strong_of (v (suc r) p)) m && path n v r m t q) ≡ true = rw s at e in
          let w = any_elim n _ h in
          omega (arith, ih w.0 (and_right (has (strong_of (v (suc r) p)) w.0) _ w.2))

  -- from a held vertex, in its own round, to itself alone
  pub path_start : (r p q : ℕ) → zero < r → held v r p ≡ true → path n v r p r q ≡ eqb p q
  path_start r p q l h = bool_ext (λ e. eq-eqb p q (path_here r p q e)) (λ e. rw (← eqb-true p q e) (path_self n v r p l h))

  -- a path to a lower round has a last edge
  last_edge : (r p t q : ℕ) → p < n → t < r → path n v r p t q ≡ true
      → (m : ℕ) × (m < n) × (path n v r p (suc t) m ≡ true) × (has (strong_of (v (suc t) m)) q ≡ true)
  last_edge zero p t q lp l e = absurd (not-suc-le-zero l)
  last_edge (suc r) p t q lp l e =
      let w = first_edge r p t q (omega arith) e in go w.0 w.1 w.2 w.3 (eq-or-lt_of_le l) (last_edge r w.0 t q w.1)
    where
      go : (x : ℕ) → x < n → has (strong_of (v (suc r) p)) x ≡ true → path n v r x t q ≡ true → (suc t ≡ suc r) ⊎ (suc t < suc r)
          → (t < r → path n v r x t q ≡ true → (m : ℕ) × (m < n) × (path n v r x (suc t) m ≡ true) × (has (strong_of (v (suc t) m)) q ≡ true))
          → (m : ℕ) × (m < n) × (path n v (suc r) p (suc t) m ≡ true) × (has (strong_of (v (suc t) m)) q ≡ true)
      go x lx s d (inl k) ih =
          let k' : t ≡ r = omega arith in
          let d' : path n v r x r q ≡ true = rw k' at d in
          let same : x ≡ q = path_here r x q d' in
          (p, lp, rw k' (path_self n v (suc r) p (omega arith) (parent_present _ x s)), rw k' (rw same at s))
      go x lx s d (inr k) ih =
          let w = ih (omega arith) d in
          (w.0, w.1, path_edge n v r p x (suc t) w.0 (omega arith) lx s w.2, w.3)

  module _ (W : ValidVertices n v) where
    -- a path goes on by an edge
    path_then : (r p t q m : ℕ) → zero < t → q < n → path n v r p (suc t) m ≡ true → has (strong_of (v (suc t) m)) q ≡ true → path n v r p t q ≡ true
    path_then zero p t q m lt lq e s = absurd (not-suc-le-zero (path_le zero p (suc t) m e))
    path_then (suc r) p t q m lt lq e s = go (eq-or-lt_of_le (path_le (suc r) p (suc t) m e)) (λ x d. path_then r x t q m lt lq d s)
      where
        go : (suc t ≡ suc r) ⊎ (suc t < suc r) → ((x : ℕ) → path n v r x (suc t) m ≡ true → path n v r x t q ≡ true) → path n v (suc r) p t q ≡ true
        go (inl k) ih =
            let k' : r ≡ t = omega arith in
            let e' : path n v (suc t) p (suc t) m ≡ true = rw k' at e in
            let s' : has (strong_of (v (suc t) p)) q ≡ true = rw (path_here (suc t) p m e') s in
            rw k' (path_edge n v t p q t q (omega arith) lq s' (path_self n v t q lt (parent_held n v W t p q s')))
        go (inr k) ih =
            let w = first_edge r p (suc t) m (omega arith) e in
            path_edge n v r p w.0 t q (omega arith) w.1 w.2 (ih w.0 w.3)

    -- the members reached in round t, from those reached in the round above
    path_step : (r p t q : ℕ) → p < n → q < n → zero < t → t < r
        → path n v r p t q ≡ any n (λ m. path n v r p (suc t) m && has (strong_of (v (suc t) m)) q)
    path_step r p t q lp lq lt l = bool_ext
        (λ e. let w = last_edge r p t q lp l e in any_intro n _ w.0 w.1 (and_both w.2 w.3))
        (λ e. let w = any_elim n _ e in path_then r p t q w.0 lt lq (and_left _ _ w.2) (and_right (path n v r p (suc t) w.0) _ w.2))

-- the union of strong masks has the strong parents
parents_has : (v : Records) (r m k q : ℕ) → has (parents v r m k) q ≡ any k (λ x. has m x && has (strong_of (v r x)) q)
unfolding parents any
parents_has v r m zero q = has_zero q
parents_has v r m (suc k) q = go (which (has m k)) (parents_has v r m k q)
  where
    go : (has m k ≡ true) ⊎ (has m k ≡ false) → has (parents v r m k) q ≡ any k (λ x. has m x && has (strong_of (v r x)) q)
        → has (parents v r m (suc k)) q ≡ any (suc k) (λ x. has m x && has (strong_of (v r x)) q)
    go (inl e) ih = rw e (has_or (parents v r m k) (strong_of (v r k)) q ∙ ap (λ (b : Bool). b || has (strong_of (v r k)) q) ih)
    go (inr e) ih = rw e (ih ∙ sym (or-false (any k (λ x. has m x && has (strong_of (v r x)) q))))

-- the claim for programs that keep one mask for each round
pub parents_claim : (n : ℕ) → ParentsClaim n
parents_claim n v W r p t m lp lt l h q lq =
    parents_has v (suc t) m n q ∙ any_cong n _ _ (λ x lx. ap (λ (b : Bool). b && has (strong_of (v (suc t) x)) q) (h x lx))
    ∙ sym (path_step n v W r p t q lp lq lt l)
