-- Demand 3, the agreement claim: one statement about two lists of calls. A round has one leader so far: it is leader 0 of its round, and the number of leaders
-- is 1. That these are 01's lists is `SingleClaim` in `protocol/specs/Single.antt`.
use Rattle.std.specs.Prelude.{◌≡◌, Bool, true, not, ◌⊎◌, List, ℕ, ◌-◌, ◌≤◌}
use Rattle.record.specs.Below.{count}
use Rattle.record.specs.Members.{faulty, has}
use Rattle.record.specs.Layout.{round_of, source_of, body_of, no_votes_of}
use Rattle.protocol.specs.Dag.{votes}
use Rattle.protocol.specs.Chain.{leaders}
use Rattle.protocol.specs.Journal.{journal}
use Rattle.protocol.specs.Claims.{Prefix}
use Rattle.replica.specs.Opening.{open_state}
use Rattle.replica.specs.Place.{words_in}
use Rattle.replica.specs.Lists.{hand_leaders, hand_journal}
use Rattle.pending.specs.Buffer.{In}
use Rattle.runs.specs.Call.{Call, run, all_allowed}
use Rattle.agreement.specs.Model.{Model, model_of, dag_of}

-- two records are of one round and one source
pub record Twins (x y : List ℕ) : Type 0 where
  pub round : round_of x ≡ round_of y
  pub source : source_of x ≡ source_of y

-- The premises, of what the two models a and b hold and of who is honest among the n members.
module _ (n : ℕ) (a b : Model) (honest : ℕ → Bool) where
  -- a vertex, or a first message, of either model
  abbrev pub Vertex : List ℕ → Type 0
  Vertex x = In x a.vertices ⊎ In x b.vertices

  abbrev pub First : List ℕ → Type 0
  First x = In x a.firsts ⊎ In x b.firsts

  pub record Premises : Type 0 where
    -- at most f members are faulty
    pub few_faulty : count n (λ p. not (honest p)) ≤ faulty n
    -- reliable broadcast delivers one vertex of a round and source
    pub one_vertex : (x y : List ℕ) → Vertex x → Vertex y → Twins x y → x ≡ y
    -- an honest member has one record in a round, as first message and as vertex
    pub one_record : (x y : List ℕ) → First x → Vertex y → Twins x y → honest (source_of x) ≡ true → x ≡ y
    -- an honest member that votes for the leader of a round signs no no-vote against it
    pub no_both : (x y : List ℕ) → Vertex x ⊎ First x → Vertex y → round_of x ≡ round_of y → honest (source_of x) ≡ true
        → votes n (round_of x - 1) 0 (body_of x) ≡ true → has (no_votes_of (body_of y)) (source_of x) ≡ true → ⊥

-- leader list and journal of a state: the words of the parts that handing over from entry 0 gives
abbrev pub leaders_in : List ℕ → List ℕ
leaders_in l = words_in l (hand_leaders l 0)

abbrev pub journal_in : List ℕ → List ℕ
journal_in l = words_in l (hand_journal l 0)

-- both lists of the state l are prefixes of those of the state k
pub record Behind (l k : List ℕ) : Type 0 where
  pub leader_list : Prefix (leaders_in l) (leaders_in k)
  pub journal_list : Prefix (journal_in l) (journal_in k)

-- the lists of a state are those of the model, with one leader a round
pub record Matches (l : List ℕ) (m : Model) : Type 0 where
  pub leader_list : leaders_in l ≡ leaders m.n 1 (dag_of m)
  pub journal_list : journal_in l ≡ journal m.n 1 (dag_of m)

-- The states l and k after two lists of calls: each has exactly its model's lists, and leader list and journal of the one are prefixes of the other's.
pub record Agreed (l k : List ℕ) (a b : Model) : Type 0 where
  pub first : Matches l a
  pub second : Matches k b
  pub ordered : Behind l k ⊎ Behind k l

-- THE CLAIM. Two states are opened with answer 0 and the same n, each on any words and for any own member; then any two lists of calls follow.
abbrev pub AgreementClaim : Type 0
AgreementClaim = (n own other : ℕ) (u w : List ℕ) → (open_state u n own).number ≡ 0 → (open_state w n other).number ≡ 0
    → (calls others : List Call) → all_allowed calls ≡ true → all_allowed others ≡ true
    → let l = (open_state u n own).words in let k = (open_state w n other).words in
    (honest : ℕ → Bool) → Premises n (model_of n l calls) (model_of n k others) honest
    → Agreed (run l calls) (run k others) (model_of n l calls) (model_of n k others)
