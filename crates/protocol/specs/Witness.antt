-- The premises can be met: two DAGs of four members, of which member 1 is faulty. The leaders of rounds 1 and 2 are skipped. The same DAGs meet them with one
-- leader a round and with two; what is said without a number of leaders is of main leaders.
use Rattle.std.specs.Prelude.{◌≡◌, Bool, true, false, not, List, [], ◌∷◌, ◌++◌, ℕ, ◌≤◌, eqb}
use Rattle.record.specs.Members.{has}
use Rattle.record.specs.Layout.{strong_of, no_votes_of, tagged, record_words}
use Rattle.protocol.specs.Dag.{Dag, records_of, held, votes, enough, committed}
use Rattle.protocol.specs.Chain.{leaders}
use Rattle.protocol.specs.Journal.{journal}
use Rattle.protocol.specs.Premises.{DagPremises}

-- the record of a round and a source with these masks of strong parents, timeouts and no-votes, and one with a weak id
abbrev pub plain : ℕ → ℕ → ℕ → ℕ → ℕ → List ℕ
plain r p strong timeouts no_votes = record_words r p strong timeouts no_votes (tagged 0).words []

abbrev pub with_weak : ℕ → ℕ → ℕ → ℕ → ℕ → ℕ → List ℕ
with_weak r p strong timeouts no_votes weak = record_words r p strong timeouts no_votes (tagged 0).words (weak ∷ [])

-- What both DAGs hold: round 1, and two rounds of members 0, 2 and 3 (mask 13) that vote for neither leader. The leader of round 3 carries no-votes against
-- that of round 2, and has a weak edge to that of round 1 (id 16).
unfoldable pub early : List (List ℕ)
early =
    plain 1 0 0 0 0 ∷ plain 1 1 0 0 0 ∷ plain 1 2 0 0 0 ∷ plain 1 3 0 0 0
    ∷ plain 2 0 14 14 0 ∷ plain 2 2 14 14 0 ∷ plain 2 3 14 14 0
    ∷ plain 3 0 13 13 0 ∷ with_weak 3 2 13 13 13 16 ∷ plain 3 3 13 13 0 ∷ []

-- What the first holds besides: two rounds of member 1, by which strong edges lead from the leader of round 4 to that of round 2, and two more rounds of
-- the others.
unfoldable pub late : List (List ℕ)
late =
    plain 2 1 15 0 0 ∷ plain 3 1 15 0 0
    ∷ plain 4 0 13 0 0 ∷ plain 4 2 13 0 0 ∷ plain 4 3 15 0 0
    ∷ plain 5 0 13 0 0 ∷ plain 5 2 13 0 0 ∷ plain 5 3 13 0 0 ∷ []

-- What the second holds besides: one vertex of round 4.
unfoldable pub vertex_of : Bool → List (List ℕ)
vertex_of true = early ++ late
vertex_of false = early ++ plain 4 2 13 0 0 ∷ []

-- The first messages of each: member 1 votes for the leader of round 3 to the second alone.
unfoldable pub first_of : Bool → List (List ℕ)
first_of true = plain 4 1 11 13 0 ∷ []
first_of false = plain 4 0 13 0 0 ∷ plain 4 1 13 0 0 ∷ []

unfoldable pub witness_dag : Bool → Dag
witness_dag i = record { vertex = records_of (vertex_of i); first = records_of (first_of i) }

abbrev pub honest : ℕ → Bool
honest p = not (eqb p 1)

pub record DagWitness : Type 0 where
  pub premises : (m : ℕ) → 1 ≤ m → m ≤ 2 → DagPremises 4 m witness_dag honest
  -- member 1 votes in one DAG and not in the other
  pub two_faced : (votes 4 3 0 ((witness_dag true).first 4 1) ≡ false) × (votes 4 3 0 ((witness_dag false).first 4 1) ≡ true)
  -- the vertex of the leader of round 2 is there, the next leader has no edge to it, and a no-vote certificate in its place
  pub skipped : (held (witness_dag true).vertex 2 1 ≡ true) × (has (strong_of ((witness_dag true).vertex 3 2)) 1
      ≡ false) × (no_votes_of ((witness_dag true).vertex 3 2) ≡ 13)
  -- the first DAG commits round 4 by vertices, the second round 3 by two first messages and the vertex of a third member, neither a quorum alone
  pub by_vertices : enough 4 (λ p. votes 4 4 0 ((witness_dag true).vertex 5 p)) ≡ true
  pub no_vertices : enough 4 (λ p. votes 4 3 0 ((witness_dag false).vertex 4 p)) ≡ false
  pub no_messages : enough 4 (λ p. votes 4 3 0 ((witness_dag false).first 4 p)) ≡ false
  pub by_both : committed 4 (witness_dag false) 3 ≡ true
  -- the leader lists: one is longer, and neither has round 1 or 2
  pub leaders_first : leaders 4 1 (witness_dag true) ≡ 50 ∷ 67 ∷ []
  pub leaders_second : leaders 4 1 (witness_dag false) ≡ 50 ∷ []
  pub journal_first : journal 4 1 (witness_dag true) ≡ 16 ∷ 17 ∷ 18 ∷ 19 ∷ 32 ∷ 34 ∷ 35 ∷ 50 ∷ 33 ∷ 48 ∷ 49 ∷ 51 ∷ 67 ∷ []
  pub journal_second : journal 4 1 (witness_dag false) ≡ 16 ∷ 17 ∷ 18 ∷ 19 ∷ 32 ∷ 34 ∷ 35 ∷ 50 ∷ []
  -- with two leaders a round: those of rounds 3 and 4, by rising index, here not by rising id
  pub two_first : leaders 4 2 (witness_dag true) ≡ 50 ∷ 51 ∷ 67 ∷ 64 ∷ []
  pub two_second : leaders 4 2 (witness_dag false) ≡ 50 ∷ 51 ∷ []
  pub two_journal_first : journal 4 2 (witness_dag true) ≡ 16 ∷ 17 ∷ 18 ∷ 19 ∷ 32 ∷ 34 ∷ 35 ∷ 50 ∷ 51 ∷ 33 ∷ 48 ∷ 49 ∷ 67 ∷ 64 ∷ []
  pub two_journal_second : journal 4 2 (witness_dag false) ≡ 16 ∷ 17 ∷ 18 ∷ 19 ∷ 32 ∷ 34 ∷ 35 ∷ 50 ∷ 51 ∷ []
