-- Strong paths and histories.
use Rattle.std.specs.Prelude.{Bool, false, cond, ◌&&◌, ◌||◌, ℕ, zero, suc, ◌-◌, eqb}
use Rattle.record.specs.Below.{any}
use Rattle.record.specs.Members.{has, id_of, id_round, id_member, leader_at}
use Rattle.record.specs.Layout.{strong_of, weak_count_of, weak_of}
use Rattle.protocol.specs.Dag.{Records, held}

module _ (n : ℕ) where
  -- strong edges lead from the vertex of round r and member p to the vertex of round t and member q
  unfoldable pub path : Records → ℕ → ℕ → ℕ → ℕ → Bool
  path v zero p t q = false
  path v (suc r) p t q =
      cond (eqb (suc r) t) (eqb p q && held v (suc r) p) (any n (λ m. has (strong_of (v (suc r) p)) m && path v r m t q))

  -- strong edges lead from the main leader's vertex of round r to the vertex of leader i of round t
  abbrev pub reaches : Records → ℕ → ℕ → ℕ → Bool
  reaches v r t i = path v r (leader_at n r 0) t (leader_at n t i)

  -- y is the id of the vertex of round r and member p, or strong and weak edges lead to it from there, fewer than k in a row
  unfoldable pub history_up_to : Records → ℕ → ℕ → ℕ → ℕ → Bool
  history_up_to v zero r p y = false
  history_up_to v (suc k) r p y =
      eqb (id_of r p) y
      || (any n (λ m. has (strong_of (v r p)) m && history_up_to v k (r - 1) m y)
      || any (weak_count_of (v r p)) (λ i. history_up_to v k (id_round (weak_of (v r p) i)) (id_member (weak_of (v r p) i)) y))

  -- y is in the history of the vertex of round r and member p: every edge falls by a round at least, so fewer than r lead to any vertex
  abbrev pub history : Records → ℕ → ℕ → ℕ → Bool
  history v r p y = history_up_to v r r p y
