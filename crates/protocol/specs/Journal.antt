-- The journal.
use Rattle.std.specs.Prelude.{Bool, false, not, ◌&&◌, ◌||◌, List, [], ◌∷◌, ◌++◌, ℕ, eqb}
use Rattle.record.specs.Below.{select}
use Rattle.record.specs.Members.{id_round, id_member, id_limit}
use Rattle.protocol.specs.Dag.{Records, Dag, last, direct}
use Rattle.protocol.specs.Paths.{history}
use Rattle.protocol.specs.Chain.{chain}

-- y stands in the list
unfoldable pub among : List ℕ → ℕ → Bool
among [] y = false
among (x ∷ l) y = eqb x y || among l y

module _ (n : ℕ) where
  -- of the history of the vertex with the id x, what is not yet in the journal j, rising
  unfoldable pub fresh : Records → List ℕ → ℕ → List ℕ
  fresh v j x = select id_limit (λ y. not (among j y) && history n v (id_round x) (id_member x) y)

  -- the journal j after the leaders with these ids: what is fresh of each joins it
  unfoldable pub extend : Records → List ℕ → List ℕ → List ℕ
  extend v j [] = j
  extend v j (x ∷ ids) = extend v (j ++ fresh v j x) ids

module _ (n m : ℕ) where
  -- the journal of the whole chain to the place (q, b)
  abbrev pub journal_of : Records → ℕ → ℕ → List ℕ
  journal_of v q b = extend n v [] (chain n m v 0 0 q b)

  -- the journal
  abbrev pub journal : Dag → List ℕ
  journal d = journal_of d.vertex (last n d) (direct n m d (last n d))
