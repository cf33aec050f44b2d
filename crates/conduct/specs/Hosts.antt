-- What ties the conduct claim to agreement: members whose records and no-votes all come from their own calls meet its premises about honest members.
use Rattle.std.specs.Prelude.{◌≡◌, Bool, true, not, ◌⊎◌, List, ℕ, suc, ◌-◌, ◌≤◌}
use Rattle.record.specs.Below.{count}
use Rattle.record.specs.Members.{faulty, has}
use Rattle.record.specs.Layout.{round_of, source_of, body_of, no_votes_of}
use Rattle.protocol.specs.Dag.{votes}
use Rattle.protocol.specs.Journal.{among}
use Rattle.replica.specs.Opening.{open_state}
use Rattle.runs.specs.Call.{Call, run, all_allowed}
use Rattle.agreement.specs.Model.{Model, model_of}
use Rattle.agreement.specs.Claim.{Twins, Vertex, First, Premises, Agreed}
use Rattle.pending.specs.Buffer.{In}
use Rattle.conduct.specs.Made.{made_records, rounds_signed}

-- The models a and b hold, of the n members, what follows.
module _ (n : ℕ) (a b : Model) (honest : ℕ → Bool) where
  -- Member p uses the library: a state was opened for it, and every record and every no-vote of it that a model holds comes from its calls.
  pub record Hosted (p : ℕ) : Type 0 where
    pub words : List ℕ
    pub calls : List Call
    pub opens : (open_state words n (suc p)).number ≡ 0
    pub allowed : all_allowed calls ≡ true
    pub records : (x : List ℕ) → Vertex n a b honest x ⊎ First n a b honest x → source_of x ≡ p
        → In x (made_records (open_state words n (suc p)).words calls)
    pub no_votes : (y : List ℕ) → Vertex n a b honest y → has (no_votes_of (body_of y)) p ≡ true
        → among (rounds_signed (open_state words n (suc p)).words calls) (round_of y - 1) ≡ true

  -- What the premises ask of an honest member p: it has one record in a round, and signs no no-vote against a leader (leader 0 of its round) that it votes for.
  pub record HonestMember (p : ℕ) : Type 0 where
    pub one_record : (x y : List ℕ) → Vertex n a b honest x ⊎ First n a b honest x → Vertex n a b honest y ⊎ First n a b honest y → Twins x y
        → source_of x ≡ p → x ≡ y
    pub no_both : (x y : List ℕ) → Vertex n a b honest x ⊎ First n a b honest x → Vertex n a b honest y → round_of x ≡ round_of y
        → source_of x ≡ p → votes n (round_of x - 1) 0 (body_of x) ≡ true → has (no_votes_of (body_of y)) p ≡ true → ⊥

  -- at most f members are faulty, reliable broadcast delivers one vertex of a round and source, and every honest member uses the library
  pub record Hosts : Type 0 where
    pub few_faulty : count n (λ p. not (honest p)) ≤ faulty n
    pub one_vertex : (x y : List ℕ) → Vertex n a b honest x → Vertex n a b honest y → Twins x y → x ≡ y
    pub hosted : (p : ℕ) → honest p ≡ true → Hosted p

-- THE COROLLARY: a member that uses the library is an honest one.
abbrev pub HostedIsHonest : Type 0
HostedIsHonest = (n : ℕ) (a b : Model) (honest : ℕ → Bool) (p : ℕ) → Hosted n a b honest p → HonestMember n a b honest p

-- So the premises of agreement hold where every honest member uses it.
abbrev pub HostsMeetPremises : Type 0
HostsMeetPremises = (n : ℕ) (a b : Model) (honest : ℕ → Bool) → Hosts n a b honest → Premises n a b honest

-- And two replicas of such a group agree.
abbrev pub HostsAgree : Type 0
HostsAgree = (n own other : ℕ) (u w : List ℕ) → (open_state u n own).number ≡ 0 → (open_state w n other).number ≡ 0
    → (calls others : List Call) → all_allowed calls ≡ true → all_allowed others ≡ true
    → let l = (open_state u n own).words in let k = (open_state w n other).words in
    (honest : ℕ → Bool) → Hosts n (model_of n l calls) (model_of n k others) honest
    → Agreed (run l calls) (run k others) (model_of n l calls) (model_of n k others)
