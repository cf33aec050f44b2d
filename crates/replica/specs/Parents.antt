-- Question 14: the parents of a record, and whether they are held.
use Rattle.std.specs.Prelude.{Bool, not, ◌&&◌, ◌||◌, List, ℕ, ◌+◌, eqb}
use Rattle.record.specs.Below.{any}
use Rattle.record.specs.Members.{has, id_round, id_member, id_limit}
use Rattle.record.specs.Layout.{strong_of, weak_count_of, weak_of}
use Rattle.replica.specs.State.{held_id}

-- y is the id of a strong or weak parent of a body of round r
unfoldable pub is_parent : ℕ → List ℕ → ℕ → Bool
is_parent r body y = (eqb (id_round y + 1) r && has (strong_of body) (id_member y)) || any (weak_count_of body) (λ i. eqb (weak_of body i) y)

-- y is the id of a parent that is not held
unfoldable pub missing : List ℕ → ℕ → List ℕ → ℕ → Bool
missing l r body y = is_parent r body y && not (held_id l y)

-- all strong and weak parents are held
unfoldable pub parents_held : List ℕ → ℕ → List ℕ → Bool
parents_held l r body = not (any id_limit (missing l r body))
