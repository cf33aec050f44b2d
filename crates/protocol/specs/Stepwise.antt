-- The lists as a state keeps them: commit by commit, as records come. The claim is that they are the DAG's own lists, for every number of leaders a round.
-- (`commits/specs/Commit.antt` says of a state's words what is said here of two lists.)
use Rattle.std.specs.Prelude.{◌≡◌, Bool, cond, ◌&&◌, List, [], ◌∷◌, ◌++◌, ℕ, zero, suc, ◌*◌, ltb}
use Rattle.record.specs.Below.{least}
use Rattle.record.specs.Members.{rounds}
use Rattle.protocol.specs.Dag.{Dag, Within, backed, committed}
use Rattle.protocol.specs.Chain.{chain, leaders}
use Rattle.protocol.specs.Journal.{extend, journal}
use Rattle.protocol.specs.Premises.{DagPremises}

-- the committed round, how many of its leaders are taken, the leader list and the journal
pub record Progress : Type 0 where
  pub round : ℕ
  pub taken : ℕ
  pub leader_list : List ℕ
  pub journal_list : List ℕ

abbrev pub opened : Progress
opened = record { round = 0; taken = 0; leader_list = []; journal_list = [] }

module _ (n m : ℕ) (d : Dag) where
  -- the next leader of the committed round may be committed: all before it are taken, and it is backed
  unfoldable pub grows : Progress → Bool
  grows s = ltb 0 s.round && (ltb s.taken m && backed n d s.round s.taken)

  -- the lowest round above the committed one, up to voted_rounds, whose main leader is committed directly; rounds if there is none
  unfoldable pub lowest : Progress → ℕ
  lowest s = least rounds (λ q. ltb s.round q && committed n d q)

  -- the leaders up to the place (q, b) are committed
  unfoldable pub commit : Progress → ℕ → ℕ → Progress
  commit s q b = record {
    round = q;
    taken = b;
    leader_list = s.leader_list ++ chain n m d.vertex s.round s.taken q b;
    journal_list = extend n d.vertex s.journal_list (chain n m d.vertex s.round s.taken q b);
  }

  -- the lowest round goes first, then the lowest index, so the committed round grows first; and again, at most k times
  unfoldable pub commit_up_to : Progress → ℕ → Progress
  commit_up_to s zero = s
  commit_up_to s (suc k) =
      cond (grows s) (commit_up_to (commit s s.round (suc s.taken)) k)
      (cond (ltb (lowest s) rounds) (commit_up_to (commit s (lowest s) 1) k) s)

  -- and again until nothing is left: there are no more than m leaders in each round
  abbrev pub commit_all : Progress → Progress
  commit_all s = commit_up_to s (m * rounds)

module _ (n m : ℕ) {I : Type 0} (dag : I → Dag) where
  -- the DAGs of a list, each with all that the one before has
  abbrev pub Rising : I → List I → Type 0
  Rising i [] = Unit {0}
  Rising i (j ∷ js) = Within (dag i) (dag j) × Rising j js

  -- the last one
  unfoldable pub final : I → List I → I
  final i [] = i
  final i (j ∷ js) = final j js

  -- what the commits of each leave
  unfoldable pub follow : Progress → List I → Progress
  follow s [] = s
  follow s (j ∷ js) = follow (commit_all n m (dag j) s) js

-- However the records of a DAG come, the lists are those of the DAG.
abbrev pub StepwiseClaim : Type 1
StepwiseClaim = (n m : ℕ) (I : Type 0) (dag : I → Dag) (honest : ℕ → Bool) → DagPremises n m dag honest
    → (i : I) (js : List I) → Rising n m dag i js → let s = follow n m dag opened (i ∷ js) in let d = dag (final n m dag i js) in
    (s.leader_list ≡ leaders n m d) × (s.journal_list ≡ journal n m d)
