-- The model (01: plain book) of a list of calls: the records that were admitted.
use Rattle.std.specs.Prelude.{Bool, cond, not, ◌||◌, List, [], ◌∷◌, ℕ, zero, suc}
use Rattle.record.specs.Below.{all}
use Rattle.record.specs.Members.{id_round, id_member, id_limit}
use Rattle.record.specs.Layout.{round_of, source_of, body_of}
use Rattle.protocol.specs.Dag.{Records, Dag, records_of, held}
use Rattle.replica.specs.Parents.{is_parent}
use Rattle.pending.specs.Buffer.{records_in}
use Rattle.pending.specs.Passes.{joins, stays, leaves, Trial, release, PassesOver}
use Rattle.runs.specs.Call.{Call, opening, vertex, vertex_with, first_message, timeout, no_vote, bundle}
use Rattle.runs.specs.Call.{status, ask_leader_list, ask_journal_list, hand_leader_list, hand_journal_list, making, signing, outcome_of}

pub record Model : Type 0 where
  pub n : ℕ
  pub vertices : List (List ℕ)
  pub firsts : List (List ℕ)

-- of n members, with no record at first
abbrev pub empty : ℕ → Model
empty n = record { n = n; vertices = []; firsts = [] }

-- all strong and weak parents of a body of round r are there
unfoldable pub parents_there : Records → ℕ → List ℕ → Bool
parents_there v r body = all id_limit (λ y. not (is_parent r body y) || held v (id_round y) (id_member y))

-- a waiting record tried against these vertices: one of its id there drops it, and with all parents there it joins
abbrev pub try_record : List (List ℕ) → List ℕ → Trial (List (List ℕ))
try_record v rec =
    cond (held (records_of v) (round_of rec) (source_of rec))
    (record { fate = leaves; after = v })
    (cond (parents_there (records_of v) (round_of rec) (body_of rec)) (record { fate = joins; after = rec ∷ v }) (record { fate = stays; after = v }))

-- the passes by these trials end, as those by vertex calls do
abbrev pub ModelPassesEnd : Type 0
ModelPassesEnd = (v recs : List (List ℕ)) → PassesOver try_record v recs

-- A record that was taken with the number 0 joins its kind, and of a pending buffer as lent those that the passes admit then; nothing else changes
-- the model.
abbrev pub admit : Call → ℕ → Model → Model
admit (vertex rec) zero m = record { n = m.n; vertices = rec ∷ m.vertices; firsts = m.firsts }
admit (vertex rec) (suc number) m = m
admit (vertex_with s rec) zero m =
    record { n = m.n; vertices = (release try_record (rec ∷ m.vertices) (records_in s)).after; firsts = m.firsts }
admit (vertex_with s rec) (suc number) m = m
admit (first_message rec) zero m = record { n = m.n; vertices = m.vertices; firsts = rec ∷ m.firsts }
admit (first_message rec) (suc number) m = m
admit (opening n own) number m = m
admit (timeout r p) number m = m
admit (no_vote r p) number m = m
admit (bundle r mask) number m = m
admit status number m = m
admit (ask_leader_list k) number m = m
admit (ask_journal_list k) number m = m
admit (hand_leader_list k) number m = m
admit (hand_journal_list k) number m = m
admit (making digest) number m = m
admit signing number m = m

-- the model of the calls on the words l, fed each call's number and arguments
unfoldable pub follow : Model → List ℕ → List Call → Model
follow m l [] = m
follow m l (c ∷ calls) = follow (admit c (outcome_of c l).number m) (outcome_of c l).words calls

abbrev pub model_of : ℕ → List ℕ → List Call → Model
model_of n l calls = follow (empty n) l calls

-- what the model holds, as a DAG
abbrev pub dag_of : Model → Dag
dag_of m = record { vertex = records_of m.vertices; first = records_of m.firsts }
