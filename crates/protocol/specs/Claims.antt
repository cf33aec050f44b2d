-- The safety theorem and what leads to it, as claims, once over m leaders a round. `proofs/` has a term of each.
use Rattle.std.specs.Prelude.{◌≡◌, Bool, true, ◌⊎◌, List, ◌++◌, ℕ, zero, ◌≤◌, ◌<◌}
use Rattle.record.specs.Members.{leader_at}
use Rattle.protocol.specs.Dag.{Dag, held, backed, direct}
use Rattle.protocol.specs.Paths.{reaches}
use Rattle.protocol.specs.Chain.{chain, leaders}
use Rattle.protocol.specs.Journal.{extend, journal_of, journal}
use Rattle.protocol.specs.Premises.{DagPremises}

-- the first list is the beginning of the second
abbrev pub Prefix : List ℕ → List ℕ → Type 0
Prefix xs ys = (zs : List ℕ) × (ys ≡ xs ++ zs)

-- The place (q, a) is settled: the first a leaders of round q are committed directly, the main one among them; or it is (0, 0), for none.
pub record Settled (n m : ℕ) (d : Dag) (q a : ℕ) : Type 0 where
  pub some : zero < q → zero < a
  pub committed : a ≤ direct n m d q

-- places in turn
abbrev pub Before : ℕ → ℕ → ℕ → ℕ → Type 0
Before c a q b = (c < q) ⊎ ((c ≡ q) × (a ≤ b))

module _ (n m : ℕ) {I : Type 0} (dag : I → Dag) where
  -- If one DAG has a leader x of round q backed, strong paths lead to its vertex from every later main leader's vertex, in any DAG of the family.
  abbrev pub KeyLemma : Type 0
  KeyLemma = (i j : I) (q x r : ℕ) → zero < q → x < m → backed n (dag i) q x ≡ true → q < r → held (dag j).vertex r (leader_at n r 0) ≡ true
      → reaches n (dag j).vertex r q x ≡ true

  -- From a settled place (c, a) of one DAG to a settled place (q, b) of another that is not before it: the chain of the second is the chain of the first
  -- followed by what the second takes from (c, a) on, and so for the journals.
  abbrev pub Growth : Type 0
  Growth = (i j : I) (c a q b : ℕ) → Settled n m (dag i) c a → Settled n m (dag j) q b → Before c a q b
      → (chain n m (dag j).vertex 0 0 q b ≡ chain n m (dag i).vertex 0 0 c a ++ chain n m (dag j).vertex c a q b)
      × (journal_of n m (dag j).vertex q b ≡ extend n (dag j).vertex (journal_of n m (dag i).vertex c a) (chain n m (dag j).vertex c a q b))

  -- Of two leader lists one is a prefix of the other, and of the two journals in the same direction.
  abbrev pub Agreement : Type 0
  Agreement = (i j : I)
      → (Prefix (leaders n m (dag i)) (leaders n m (dag j)) × Prefix (journal n m (dag i)) (journal n m (dag j)))
      ⊎ (Prefix (leaders n m (dag j)) (leaders n m (dag i)) × Prefix (journal n m (dag j)) (journal n m (dag i)))

-- What the crate shows: for every family that meets the premises, all three.
abbrev pub Safety : Type 1
Safety = (n m : ℕ) (I : Type 0) (dag : I → Dag) (honest : ℕ → Bool) → DagPremises n m dag honest → KeyLemma n m dag × Growth n m dag × Agreement n m dag
