-- The DAG of a state: which vertices it holds, that they are well formed, and the votes of its first messages. Assumes nothing.
use mathlib.Core.Path.{◌≡◌, refl, sym, ◌∙◌}
use mathlib.Core.Bool.{true, false, ◌&&◌}
use mathlib.Core.Logic.{◌⊎◌, inl, inr}
use mathlib.Core.List.{List, [], ◌∷◌}
use Prim.Native.Nat.{ℕ, ◌+◌, ◌-◌, ◌≤◌, ◌<◌}
use native.Mathlib.Nat.{not-suc-le-zero}
use native.Mathlib.Omega.{arith}
use lib.Dec.{ltb}
use lib.ListN.{length, get_or, drop}
use borrow.Author.Tests.{lt-ltb}
use lib.Seq.{get_or-drop, get_or-take}
use Rattle.record.specs.Members.{has, id_of, id_round, id_member, is_round, rounds, slots, id_limit}
use Rattle.record.specs.Layout.{strong_of, weak_count_of, weak_of, body_size, weak_slots}
use Rattle.record.specs.Admitted.{Admitted, Certified}
use Rattle.record.proofs.Booleans.{which, never, and_left, and_right, and_both}
use Rattle.record.proofs.Masks.{has_bound}
use Rattle.record.proofs.Turn.{admitted, certified}
use Rattle.record.proofs.Rounds.{round_in, round_range, id_round_lem, id_member_lem}
use Rattle.protocol.specs.Dag.{present, held}
use Rattle.protocol.specs.Premises.{ValidVertices}
use Rattle.protocol.proofs.Paths.{parent_present, weak_present}
use Rattle.replica.specs.Layout.{state_size, cell_at}
use Rattle.replica.specs.State.{member_count, held_mask, cell, vertices, held_id}
use Rattle.replica.specs.Parents.{is_parent}
use Rattle.replica.proofs.ParentLaws.{strong_parent, weak_parent_lem, parents_elim}
use Rattle.replica.proofs.Formed.{WellFormed, length_part}

-- ---- the vertices

-- a record with words is there
some_words : (body : List ℕ) → 0 < length body → present body ≡ true
some_words [] h = absurd (not-suc-le-zero h)
some_words (w ∷ body) h = refl

module _ (l : List ℕ) (size : length l ≡ state_size) where
  -- a cell has the size of a body
  pub cell_length : (r p : ℕ) → 1 ≤ r → r ≤ rounds → p < slots → length (cell l r p) ≡ body_size
  cell_length r p a b k = length_part l (cell_at r p) body_size (omega arith)

  -- exactly the members of the held masks have a vertex
  pub held_vertex : (r p : ℕ) → p < slots → held (vertices l) r p ≡ (is_round r && has (held_mask l r) p)
  unfolding vertices
  held_vertex r p k = go (which (is_round r && has (held_mask l r) p))
    where
      go : ((is_round r && has (held_mask l r) p) ≡ true) ⊎ ((is_round r && has (held_mask l r) p) ≡ false)
          → held (vertices l) r p ≡ (is_round r && has (held_mask l r) p)
      go (inl e) =
          let w = round_range r (and_left _ _ e) in
          rw (e, lt-ltb p slots k) (some_words (cell l r p) (omega (arith, cell_length r p w.0 w.1 k)))
      go (inr e) = rw e

  -- the same of an id
  pub held_id_lem : (y : ℕ) → held_id l y ≡ held (vertices l) (id_round y) (id_member y)
  held_id_lem y = sym (held_vertex (id_round y) (id_member y) (omega arith))

  -- the words of a vertex in its cell
  pub vertex_cell : (r p : ℕ) → held (vertices l) r p ≡ true → vertices l r p ≡ cell l r p
  unfolding vertices
  vertex_cell r p h = go (which (is_round r && has (held_mask l r) p))
    where
      go : ((is_round r && has (held_mask l r) p) ≡ true) ⊎ ((is_round r && has (held_mask l r) p) ≡ false) → vertices l r p ≡ cell l r p
      go (inl e) = slot (which (ltb p slots))
        where
          slot : (ltb p slots ≡ true) ⊎ (ltb p slots ≡ false) → vertices l r p ≡ cell l r p
          slot (inl k) = rw (e, k)
          slot (inr k) = never h (rw (e, k))
      go (inr e) = never h (rw e)

  -- a vertex is of a round from 1 to 32, and in the held mask
  pub in_mask : (r p : ℕ) → held (vertices l) r p ≡ true → (1 ≤ r) × (r ≤ rounds) × (has (held_mask l r) p ≡ true)
  unfolding vertices
  in_mask r p h = go (which (is_round r && has (held_mask l r) p))
    where
      go : ((is_round r && has (held_mask l r) p) ≡ true) ⊎ ((is_round r && has (held_mask l r) p) ≡ false) → (1 ≤ r) × (r ≤ rounds)
          × (has (held_mask l r) p ≡ true)
      go (inl e) = let w = round_range r (and_left _ _ e) in (w.0, w.1, and_right (is_round r) _ e)
      go (inr e) = never h (rw e)

-- ---- a formed state

module _ (l : List ℕ) (S : WellFormed l) where
  -- what is held is of a member
  pub in_group : (r p : ℕ) → 1 ≤ r → r ≤ rounds → has (held_mask l r) p ≡ true → p < member_count l
  in_group r p a b h = has_bound (member_count l) (held_mask l r) p (S.masks.held_low r a b) h

  -- a vertex is admitted
  pub admits : (r p : ℕ) → held (vertices l) r p ≡ true → Admitted (member_count l) r p (vertices l r p)
  admits r p h =
      let w = in_mask l S.size r p h in
      let k : p < slots = omega (arith, in_group r p w.0 w.1 w.2, S.front.high) in
      rw (vertex_cell l S.size r p h) (admitted (member_count l) r p (cell l r p) (S.cells.admits r p w.0 w.1 k w.2))

  -- and certified
  pub dag_certified : (r p : ℕ) → held (vertices l) r p ≡ true → Certified (member_count l) 1 r p (vertices l r p)
  dag_certified r p h =
      let w = in_mask l S.size r p h in
      let k : p < slots = omega (arith, in_group r p w.0 w.1 w.2, S.front.high) in
      rw (vertex_cell l S.size r p h) (certified (member_count l) r p (cell l r p) (S.cells.admits r p w.0 w.1 k w.2))

  -- and its parents are held
  parent : (r p y : ℕ) → held (vertices l) r p ≡ true → y < id_limit → is_parent r (vertices l r p) y ≡ true
      → held (vertices l) (id_round y) (id_member y) ≡ true
  parent r p y h k d =
      let w = in_mask l S.size r p h in
      let m : p < slots = omega (arith, in_group r p w.0 w.1 w.2, S.front.high) in
      sym (held_id_lem l S.size y)
      ∙ parents_elim l r (cell l r p) (S.cells.parents r p w.0 w.1 m w.2) y k (rw (vertex_cell l S.size r p h) at d)

  -- The vertices of a formed state are well formed.
  pub dag_well_formed : ValidVertices (member_count l) (vertices l)
  dag_well_formed = record { admitted = admits; strong_held = strong; weak_held = weak }
    where
      strong : (r p m : ℕ) → has (strong_of (vertices l r p)) m ≡ true → held (vertices l) (r - 1) m ≡ true
      strong r p m s =
          let h : held (vertices l) r p ≡ true = parent_present _ m s in
          let a = admits r p h in
          let k : m < slots = omega (arith, has_bound (member_count l) (strong_of (vertices l r p)) m a.strong_low s, S.front.high) in
          let b : 1 ≤ r = a.round_low in
          let c : r ≤ rounds = a.round_high in
          rw (id_round_lem (r - 1) m k, id_member_lem (r - 1) m k) at (parent r p (id_of (r - 1) m) h (omega arith)
          (strong_parent r (vertices l r p) (id_of (r - 1) m) (omega arith) (rw (id_member_lem (r - 1) m k) s)))

      weak : (r p i : ℕ) → i < weak_count_of (vertices l r p)
          → held (vertices l) (id_round (weak_of (vertices l r p) i)) (id_member (weak_of (vertices l r p) i)) ≡ true
      weak r p i m =
          let h : held (vertices l) r p ≡ true = weak_present _ i m in
          let a = admits r p h in
          let k : i < weak_slots = omega (arith, a.weak_few, S.front.high) in
          parent r p (weak_of (vertices l r p) i) h (omega (arith, a.weak_high i k m, a.round_high)) (weak_parent_lem r (vertices l r p) i m)

  -- the words of a vertex and of its cell are the same, for a cell not held is zero
  pub vertex_words : (r p i : ℕ) → 1 ≤ r → r ≤ rounds → p < slots → i < body_size → get_or (vertices l r p) i 0 ≡ get_or l (cell_at r p + i) 0
  vertex_words r p i a b k m = go (which (has (held_mask l r) p))
    where
      none : has (held_mask l r) p ≡ false → vertices l r p ≡ []
      none e = unfold vertices in rw (e, round_in r a b)

      there : has (held_mask l r) p ≡ true → held (vertices l) r p ≡ true
      there e = held_vertex l S.size r p k ∙ and_both (round_in r a b) e

      go : (has (held_mask l r) p ≡ true) ⊎ (has (held_mask l r) p ≡ false) → get_or (vertices l r p) i 0 ≡ get_or l (cell_at r p + i) 0
      go (inl e) = rw (vertex_cell l S.size r p (there e)) (get_or-take body_size (drop (cell_at r p) l) i 0 m ∙ get_or-drop (cell_at r p) l i 0)
      go (inr e) = rw (none e) (sym (S.cells.zero_cell r p i a b k m e))
