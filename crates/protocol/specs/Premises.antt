-- Well-formed vertices, and the premises of agreement over a family of DAGs: one for each i : I.
use Rattle.std.specs.Prelude.{◌≡◌, Bool, true, not, ℕ, suc, ◌-◌, ◌≤◌, ◌<◌}
use Rattle.record.specs.Below.{count}
use Rattle.record.specs.Members.{legal, faulty, has, id_round, id_member}
use Rattle.record.specs.Layout.{strong_of, no_votes_for, weak_count_of, weak_of}
use Rattle.record.specs.Admitted.{Admitted, Certified}
use Rattle.protocol.specs.Dag.{Records, Dag, present, held, voter}

module _ (n : ℕ) where
  -- every vertex is admitted by the record questions, and its strong and weak parents are there
  pub record ValidVertices (v : Records) : Type 0 where
    pub admitted : (r p : ℕ) → held v r p ≡ true → Admitted n r p (v r p)
    pub strong_held : (r p m : ℕ) → has (strong_of (v r p)) m ≡ true → held v (r - 1) m ≡ true
    pub weak_held : (r p i : ℕ) → i < weak_count_of (v r p) → held v (id_round (weak_of (v r p) i)) (id_member (weak_of (v r p) i)) ≡ true

-- with m leaders a round
module _ (n m : ℕ) where
  pub record DagPremises {I : Type 0} (dag : I → Dag) (honest : ℕ → Bool) : Type 0 where
    pub members : legal n ≡ true
    pub main_leader : 1 ≤ m
    pub well_formed : (i : I) → ValidVertices n (dag i).vertex
    -- a main leader's vertex has a certificate against each leader of the round before that it lacks
    pub certified : (i : I) (r p : ℕ) → held (dag i).vertex r p ≡ true → Certified n m r p ((dag i).vertex r p)
    -- at most f members are faulty
    pub few_faulty : count n (λ p. not (honest p)) ≤ faulty n
    -- reliable broadcast: two members that deliver a vertex of a round and source deliver the same
    pub one_vertex : (i j : I) (r p : ℕ) → held (dag i).vertex r p ≡ true → held (dag j).vertex r p ≡ true → (dag i).vertex r p ≡ (dag j).vertex r p
    -- an honest member's first message is its vertex
    pub one_record : (i j : I) (r p : ℕ) → honest p ≡ true → present ((dag i).first r p) ≡ true → held (dag j).vertex r p ≡ true
        → (dag i).first r p ≡ (dag j).vertex r p
    -- an honest member that votes for leader x of a round signs no no-vote against leader x of that round
    pub no_both : (i j : I) (r x p s : ℕ) → x < m → honest p ≡ true → voter n (dag i) r x p ≡ true
        → has (no_votes_for ((dag j).vertex (suc r) s) x) p ≡ true → ⊥
