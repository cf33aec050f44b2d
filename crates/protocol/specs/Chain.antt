-- The walk over leaders, and the leader list.
use Rattle.std.specs.Prelude.{cond, List, [], ◌∷◌, ◌++◌, ℕ, zero, suc, ◌-◌, eqb, leb, ltb}
use Rattle.record.specs.Below.{longest}
use Rattle.record.specs.Members.{id_of, leader_at}
use Rattle.protocol.specs.Dag.{Records, Dag, last, direct}
use Rattle.protocol.specs.Paths.{reaches}

module _ (n : ℕ) where
  -- the id of the vertex of leader i of round r
  abbrev pub leader_id : ℕ → ℕ → ℕ
  leader_id r i = id_of r (leader_at n r i)

  -- the ids of the vertices of round r's leaders a, .. b - 1, by rising index
  unfoldable pub seats : ℕ → ℕ → ℕ → List ℕ
  seats r a zero = []
  seats r a (suc b) = cond (leb a b) (seats r a b ++ leader_id r b ∷ []) []

module _ (n m : ℕ) where
  -- how many of round t's leaders are taken from the main leader's vertex of round r: the longest run, from the main one on, of those that strong paths
  -- lead to
  abbrev pub span : Records → ℕ → ℕ → ℕ
  span v r t = longest m (reaches n v r t)

  -- Where the first a leaders of round c are already taken: the ids that are taken of the rounds t, t - 1, .. c, where one stands on the main leader's
  -- vertex of round r. At each round whose main leader is reached, its span joins, less those already taken, and one stands on that main leader from then
  -- on. The ids are given by rising round, and in a round by rising index.
  unfoldable pub walk : Records → ℕ → ℕ → ℕ → ℕ → List ℕ
  walk v c a r zero = []
  walk v c a r (suc t) =
      cond (ltb (suc t) c) [] (cond (reaches n v r (suc t) 0)
      (walk v c a (suc t) t ++ seats n (suc t) (cond (eqb (suc t) c) a 0) (span v r (suc t)))
      (walk v c a r t))

  -- From the place (c, a), where the first a leaders of round c are the last taken, to the place (q, b): what committing the first b leaders of round q
  -- directly takes. From the place (0, 0) it is the whole chain.
  unfoldable pub chain : Records → ℕ → ℕ → ℕ → ℕ → List ℕ
  chain v c a q b = cond (eqb c q) (seats n q a b) (walk v c a q (q - 1) ++ seats n q 0 b)

  -- the leader list: the walk from the last round's main leader, and that round's direct run behind it
  abbrev pub leaders : Dag → List ℕ
  leaders d = chain d.vertex 0 0 (last n d) (direct n m d (last n d))
