-- One leader a round: 01's lists, written for one leader, and the claims that m = 1 gives them. No other claim rests on this file.
use Rattle.std.specs.Prelude.{◌≡◌, Bool, true, cond, not, ◌&&◌, ◌||◌, List, [], ◌∷◌, ◌++◌, map, ℕ, zero, suc, ◌-◌, ◌<◌, eqb, leb}
use Rattle.record.specs.Below.{select}
use Rattle.record.specs.Members.{legal, leader, has, id_of, id_limit, voted_rounds}
use Rattle.record.specs.Layout.{strong_of}
use Rattle.protocol.specs.Dag.{Records, Dag, held, enough}
use Rattle.protocol.specs.Paths.{path, history}
use Rattle.protocol.specs.Chain.{chain, leaders}
use Rattle.protocol.specs.Journal.{among, journal}

module _ (n : ℕ) where
  -- the leader's vertex is there, and a quorum of members votes for it by vertex or first message
  unfoldable pub one_committed : Dag → ℕ → Bool
  one_committed d r =
      held d.vertex r (leader n r)
      && enough n (λ p. has (strong_of (d.vertex (suc r) p)) (leader n r) || has (strong_of (d.first (suc r) p)) (leader n r))

  unfoldable pub one_last_up_to : Dag → ℕ → ℕ
  one_last_up_to d zero = 0
  one_last_up_to d (suc k) = cond (one_committed d (suc k)) (suc k) (one_last_up_to d k)

  -- the rounds of the leaders taken above round low, from the leader's vertex of round r on
  unfoldable pub one_walk : Records → ℕ → ℕ → ℕ → List ℕ
  one_walk v low r zero = []
  one_walk v low r (suc t) =
      cond (leb (suc t) low) [] (cond (path n v r (leader n r) (suc t) (leader n (suc t))) (one_walk v low (suc t) t ++ suc t ∷ []) (one_walk v low r t))

  unfoldable pub one_chain : Records → ℕ → ℕ → List ℕ
  one_chain v low q = cond (leb q low) [] (one_walk v low q (q - 1) ++ q ∷ [])

  abbrev pub one_leaders : Dag → List ℕ
  one_leaders d = map (λ r. id_of r (leader n r)) (one_chain d.vertex 0 (one_last_up_to d voted_rounds))

  unfoldable pub one_fresh : Records → List ℕ → ℕ → List ℕ
  one_fresh v j r = select id_limit (λ y. not (among j y) && history n v r (leader n r) y)

  unfoldable pub one_extend : Records → List ℕ → List ℕ → List ℕ
  one_extend v j [] = j
  one_extend v j (r ∷ rounds) = one_extend v (j ++ one_fresh v j r) rounds

  abbrev pub one_journal : Dag → List ℕ
  one_journal d = one_extend d.vertex [] (one_chain d.vertex 0 (one_last_up_to d voted_rounds))

-- of every DAG, whatever it holds
abbrev pub SingleClaim : Type 0
SingleClaim = (n : ℕ) → legal n ≡ true → (d : Dag) → (leaders n 1 d ≡ one_leaders n d) × (journal n 1 d ≡ one_journal n d)

-- how many leaders of round c are taken, where it is the round of the last one taken, or 0 for none
abbrev pub one_taken : ℕ → ℕ
one_taken c = cond (eqb c 0) 0 1

-- and of every commit
abbrev pub SingleCommitClaim : Type 0
SingleCommitClaim = (n : ℕ) (v : Records) (c q : ℕ) → c < q → chain n 1 v c (one_taken c) q 1 ≡ map (λ r. id_of r (leader n r)) (one_chain n v c q)
