-- The claim's premises can be met: two lists of calls on four members, of which member 1 is faulty. Their records are those of the protocol's witness.
use Rattle.std.specs.Prelude.{◌≡◌, Bool, true, false, List, [], ◌∷◌, ◌++◌, map, ℕ, drop}
use Rattle.protocol.specs.Witness.{plain, early, late, vertex_of, first_of, witness_dag, honest}
use Rattle.replica.specs.Layout.{watcher}
use Rattle.replica.specs.Opening.{opened, open_state}
use Rattle.pending.specs.Buffer.{buffer_of}
use Rattle.runs.specs.Call.{Call, opening, vertex, vertex_with, first_message, timeout, no_vote, bundle, status, ask_leader_list, hand_journal_list}
use Rattle.runs.specs.Call.{run, all_allowed}
use Rattle.agreement.specs.Model.{Model, model_of, dag_of}
use Rattle.agreement.specs.Claim.{Premises, leaders_in, journal_in, Agreed}

-- both states: opened with 4, for a watcher
abbrev pub start : List ℕ
start = (open_state (opened 4 watcher) 4 watcher).words

-- The vertices. To the second state they come one by one; of the first state's, one comes with a buffer in which nine others wait for it.
unfoldable pub vertex_calls : Bool → List Call
vertex_calls true = vertex_with (buffer_of (drop 1 early)) (plain 1 0 0 0 0) ∷ map vertex late
vertex_calls false = map vertex (vertex_of false)

-- all vertices, then the first messages, with calls between them that admit no record
unfoldable pub calls_of : Bool → List Call
calls_of i =
    (opening 5 watcher ∷ status ∷ timeout 1 3 ∷ bundle 1 12 ∷ [])
    ++ (vertex_calls i
    ++ ((no_vote 2 0 ∷ ask_leader_list 0 ∷ [])
    ++ (map first_message (first_of i) ++ (hand_journal_list 0 ∷ []))))

abbrev pub model_for : Bool → Model
model_for i = model_of 4 start (calls_of i)

pub record Witness : Type 0 where
  -- what the claim asks
  pub opens : (open_state (opened 4 watcher) 4 watcher).number ≡ 0
  pub allowed_calls : (i : Bool) → all_allowed (calls_of i) ≡ true
  pub premises : Premises 4 (model_for true) (model_for false) honest
  -- All records were admitted: the models hold what the protocol's witness does. There the leaders of rounds 1 and 2 are skipped, the latter with a
  -- no-vote certificate; the first DAG commits rounds 3 and 4 by vertices, the second round 3 by two first messages and a third member's vertex.
  pub same_dag : (i : Bool) → dag_of (model_for i) ≡ witness_dag i
  -- what the claim gives, and that it is not about empty lists
  pub agreed : Agreed (run start (calls_of true)) (run start (calls_of false)) (model_for true) (model_for false)
  pub leaders_first : leaders_in (run start (calls_of true)) ≡ 50 ∷ 67 ∷ []
  pub leaders_second : leaders_in (run start (calls_of false)) ≡ 50 ∷ []
  pub journal_first : journal_in (run start (calls_of true)) ≡ 16 ∷ 17 ∷ 18 ∷ 19 ∷ 32 ∷ 34 ∷ 35 ∷ 50 ∷ 33 ∷ 48 ∷ 49 ∷ 51 ∷ 67 ∷ []
  pub journal_second : journal_in (run start (calls_of false)) ≡ 16 ∷ 17 ∷ 18 ∷ 19 ∷ 32 ∷ 34 ∷ 35 ∷ 50 ∷ []
