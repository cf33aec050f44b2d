-- A leader list and a journal that follow the settled places of a DAG, over a family, as a state's do: opened, left as they are by records that are added, and
-- extended by a commit.
use mathlib.Core.Path.{◌≡◌, refl, sym, ap, ap₂, ◌∙◌}
use mathlib.Core.Bool.{Bool, true, false}
use mathlib.Core.Logic.{◌⊎◌, inl, inr, ⊎_elim}
use mathlib.Core.List.{List, [], ◌++◌, append-nil}
use Prim.Native.Nat.{ℕ, zero, suc, ◌≤◌, ◌<◌}
use native.Mathlib.Nat.{eq-or-lt_of_le}
use native.Mathlib.Omega.{arith}
use lib.Dec.{leb}
use borrow.Author.Tests.{leb-true, leb-false}
use Rattle.record.specs.Members.{voted_rounds}
use Rattle.record.proofs.Booleans.{which, never}
use Rattle.protocol.specs.Dag.{Dag, Within, backed, last, direct}
use Rattle.protocol.specs.Chain.{chain, leaders}
use Rattle.protocol.specs.Journal.{extend, journal_of, journal}
use Rattle.protocol.specs.Premises.{DagPremises}
use Rattle.protocol.specs.Claims.{Settled, Before}
use Rattle.protocol.proofs.Commit.{direct_none, direct_reach, direct_le, direct_backed, direct_grows, settled_backed}
use Rattle.protocol.proofs.Chain.{chain_self}
use Rattle.protocol.proofs.Journal.{extend_none}
use Rattle.protocol.proofs.Laws.{last_place_lem}
use Rattle.protocol.proofs.Agreement.{growth}

module _ (n m : ℕ) where
  -- the place (0, 0) is settled in every DAG
  pub settled_open : (d : Dag) → Settled n m d 0 0
  settled_open d = record { some = λ l. absurd (omega arith); committed = omega arith }

  -- a round whose main leader is backed
  pub settled_main : (d : Dag) (q : ℕ) → 1 ≤ m → zero < q → backed n d q 0 ≡ true → Settled n m d q 1
  settled_main d q lm l e = record { some = λ k. omega arith; committed = direct_reach n m d q 1 l lm (λ x k. ap (backed n d q) (zero_of x k) ∙ e) }
    where
      zero_of : (x : ℕ) → x < 1 → x ≡ 0
      zero_of x k = omega arith

  -- the next leader of the round of a settled place, if it is backed
  pub settled_next : (d : Dag) (q a : ℕ) → zero < q → Settled n m d q a → a < m → backed n d q a ≡ true → Settled n m d q (suc a)
  settled_next d q a l S la e = record { some = λ k. omega arith; committed = direct_reach n m d q (suc a) l la upto }
    where
      upto : (x : ℕ) → x < suc a → backed n d q x ≡ true
      upto x k = ⊎_elim (λ (s : suc x ≡ suc a). ap (backed n d q) (pred s) ∙ e) (λ s. settled_backed n m d q a S x (omega arith)) (eq-or-lt_of_le k)
        where
          pred : suc x ≡ suc a → x ≡ a
          pred s = omega arith

  -- where the next one is not, the direct run ends
  pub settled_full : (d : Dag) (q a : ℕ) → (a < m → backed n d q a ≡ false) → direct n m d q ≤ a
  settled_full d q a h = go (which (leb (direct n m d q) a))
    where
      go : (leb (direct n m d q) a ≡ true) ⊎ (leb (direct n m d q) a ≡ false) → direct n m d q ≤ a
      go (inl e) = leb-true _ _ e
      go (inr e) =
          let l : a < direct n m d q = leb-false (direct n m d q) a e in
          never (direct_backed n m d q a l) (h (omega (arith, direct_le n m d q)))

-- (c, a) is a settled place of d, and the lists are those of its chain
pub record At (n m : ℕ) (d : Dag) (c a : ℕ) (L J : List ℕ) : Type 0 where
  pub settled : Settled n m d c a
  pub leader_list : L ≡ chain n m d.vertex 0 0 c a
  pub journal_list : J ≡ journal_of n m d.vertex c a

-- at first the lists are empty
pub at_open : (n m : ℕ) (d : Dag) → At n m d 0 0 [] []
at_open n m d = record {
  settled = settled_open n m d;
  leader_list = sym (chain_self n m d.vertex 0 0);
  journal_list = sym (ap (extend n d.vertex []) (chain_self n m d.vertex 0 0) ∙ extend_none n d.vertex []);
}

-- where nothing more is ready, the lists are the DAG's own
module _ (n m : ℕ) (d : Dag) (c a : ℕ) (L J : List ℕ) (A : At n m d c a L J) (lm : 1 ≤ m) (high : c ≤ voted_rounds)
    (full : zero < c → a < m → backed n d c a ≡ false) (none : (q : ℕ) → c < q → q ≤ voted_rounds → backed n d q 0 ≡ false) where
  at_place : (c ≡ last n d) × (a ≡ direct n m d (last n d))
  at_place = last_place_lem n m d c a lm high A.settled (run_over (which (leb c 0))) none
    where
      run_over : (leb c 0 ≡ true) ⊎ (leb c 0 ≡ false) → direct n m d c ≤ a
      run_over (inl e) =
          let z : c ≡ 0 = omega (arith, leb-true c 0 e) in
          rw z (direct_none n m d a)
      run_over (inr e) = settled_full n m d c a (full (leb-false c 0 e))

  pub at_leaders : L ≡ leaders n m d
  at_leaders = A.leader_list ∙ ap₂ (λ (q : ℕ) (b : ℕ). chain n m d.vertex 0 0 q b) at_place.0 at_place.1

  pub at_journal : J ≡ journal n m d
  at_journal = A.journal_list ∙ ap₂ (λ (q : ℕ) (b : ℕ). journal_of n m d.vertex q b) at_place.0 at_place.1

module _ (n m : ℕ) {I : Type 0} (dag : I → Dag) (honest : ℕ → Bool) (P : DagPremises n m dag honest) where
  -- a commit: of a later round's main leader, or of the next leader of the same round
  pub at_commit : (i : I) (c a q b : ℕ) (L J : List ℕ) → At n m (dag i) c a L J → Before c a q b → Settled n m (dag i) q b
      → At n m (dag i) q b (L ++ chain n m (dag i).vertex c a q b) (extend n (dag i).vertex J (chain n m (dag i).vertex c a q b))
  at_commit i c a q b L J A B S =
      let v = (dag i).vertex in
      let g = growth n m dag honest P i i c a q b A.settled S B in
      record {
        settled = S;
        leader_list = ap (λ (x : List ℕ). x ++ chain n m v c a q b) A.leader_list ∙ sym g.0;
        journal_list = ap (λ (x : List ℕ). extend n v x (chain n m v c a q b)) A.journal_list ∙ sym g.1;
      }

  -- records that are added change nothing
  pub at_grow : (i j : I) (c a : ℕ) (L J : List ℕ) → Within (dag i) (dag j) → At n m (dag i) c a L J → At n m (dag j) c a L J
  at_grow i j c a L J W A =
      let s : Settled n m (dag j) c a = record {
        some = A.settled.some;
        committed = omega
            (arith, A.settled.committed, direct_grows n (dag i) (dag j) W m c);
      } in
      let g = growth n m dag honest P i j c a c a A.settled s (inr (refl, omega arith)) in
      let w = (dag j).vertex in
      record {
        settled = s;
        leader_list = A.leader_list ∙ sym (g.0
            ∙ ap (λ (x : List ℕ). chain n m (dag i).vertex 0 0 c a ++ x) (chain_self n m w c a) ∙ append-nil (chain n m (dag i).vertex 0 0 c a));
        journal_list = A.journal_list ∙ sym (g.1
            ∙ ap (extend n w (journal_of n m (dag i).vertex c a)) (chain_self n m w c a) ∙ extend_none n w (journal_of n m (dag i).vertex c a));
      }
