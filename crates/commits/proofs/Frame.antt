-- What a change of the lists, the counts or the ordered masks leaves as it was: the vertices, the first messages, and what the commits rely on.
-- Assumes nothing.
use mathlib.Core.Path.{◌≡◌, refl, sym, ap, ◌∙◌}
use mathlib.Core.Bool.{true, false}
use mathlib.Core.Logic.{◌⊎◌, inl, inr}
use mathlib.Core.List.{List}
use Prim.Native.Nat.{ℕ, ◌+◌, ◌≤◌, ◌<◌}
use native.Mathlib.Omega.{arith}
use lib.ListN.{get_or, set, length, length-set}
use lib.Seq.{get_or-set_other}
use Rattle.replica.proofs.Keeping.{keeps_part, guarded}
use Rattle.record.specs.Members.{has, add, id_round, id_member, is_round, rounds, slots, id_limit}
use Rattle.record.proofs.Booleans.{which, and_cong, cond_cong, and_left}
use Rattle.record.proofs.Rounds.{round_range}
use Rattle.protocol.proofs.Laws.{records_ext}
use Rattle.record.specs.Layout.{body_size}
use Rattle.replica.specs.Layout.{head_size, journal_count_at, held_kind, heard_kind, votes_kind, timeouts_kind, member_count_at, leaders_end}
use Rattle.replica.specs.Layout.{journal_end, cells_end}
use Rattle.replica.specs.Layout.{masks_at, cell_at, ordered_at, leaders_at, journal_at, journal_size, cells_at}
use Rattle.replica.specs.State.{member_count, journal_count, held_mask, heard_mask, votes_mask, ordered_mask, vertices, add_member, cell}
use Rattle.replica.specs.State.{firsts}
use Rattle.commits.specs.Commit.{enter}
use Rattle.commits.specs.Standing.{Standing}

-- ---- states alike in members, cells and the three masks of what was taken

pub record Alike (l m : List ℕ) : Type 0 where
  pub size : length m ≡ length l
  pub members : member_count m ≡ member_count l
  pub cells : (i : ℕ) → cells_at ≤ i → i < cells_end → get_or m i 0 ≡ get_or l i 0
  pub masks : (r k : ℕ) → 1 ≤ r → r ≤ rounds → k < timeouts_kind → get_or m (masks_at r + k) 0 ≡ get_or l (masks_at r + k) 0

pub alike_self : (l : List ℕ) → Alike l l
alike_self l = record { size = refl; members = refl; cells = λ i h k. refl; masks = λ r k a b d. refl }

pub alike_then : {l m o : List ℕ} → Alike l m → Alike m o → Alike l o
alike_then a b = record {
  size = b.size ∙ a.size;
  members = b.members ∙ a.members;
  cells = λ i h k. b.cells i h k ∙ a.cells i h k;
  masks = λ r k x y z. b.masks r k x y z ∙ a.masks r k x y z;
}

-- a word that is neither the member count, nor one of those masks, nor in a cell
pub record Loose (j : ℕ) : Type 0 where
  pub low : 0 < j
  pub off : cells_at ≤ j → j < cells_end → ⊥
  pub apart : (r k : ℕ) → 1 ≤ r → r ≤ rounds → k < timeouts_kind → masks_at r + k ≡ j → ⊥

pub alike_set : (l : List ℕ) (j x : ℕ) → Loose j → Alike l (set l j x)
alike_set l j x f = record {
  size = length-set l j x;
  members = get_or-set_other l j member_count_at x 0 (λ e. omega (arith, f.low));
  cells = λ i h k. get_or-set_other l j i x 0 (λ e. f.off (omega arith) (omega arith));
  masks = λ r k a b d. get_or-set_other l j (masks_at r + k) x 0 (λ e. f.apart r k a b d e);
}

pub loose_head : (j : ℕ) → 0 < j → j < head_size → Loose j
loose_head j a b = record { low = a; off = λ h k. omega arith; apart = λ r k c d h e. omega arith }

pub loose_leader : (j : ℕ) → leaders_at ≤ j → j < leaders_end → Loose j
loose_leader j a b = record { low = omega arith; off = λ h k. omega arith; apart = λ r k c d h e. omega arith }

pub loose_entry : (j : ℕ) → journal_at ≤ j → j < journal_end → Loose j
loose_entry j a b = record { low = omega arith; off = λ h k. omega arith; apart = λ r k c d h e. omega arith }

pub loose_ordered : (r : ℕ) → 1 ≤ r → r ≤ rounds → Loose (ordered_at r)
loose_ordered r a b = record { low = omega arith; off = λ h k. omega arith; apart = λ s k c d h e. omega arith }

-- ---- what alike states share

module _ {l m : List ℕ} (A : Alike l m) where
  cell_same : (r p : ℕ) → 1 ≤ r → r ≤ rounds → p < slots → cell m r p ≡ cell l r p
  cell_same r p a b c = keeps_part (λ j. (cells_at ≤ j) × (j < cells_end)) l m (record { size = A.size; same = λ j k. A.cells j k.0 k.1 })
      (cell_at r p) body_size
      (λ j x y. (omega arith, omega arith))

  held_same : (r : ℕ) → is_round r ≡ true → held_mask m r ≡ held_mask l r
  held_same r e = let h = round_range r e in A.masks r held_kind h.0 h.1 (omega arith)

  heard_same : (r : ℕ) → is_round r ≡ true → heard_mask m r ≡ heard_mask l r
  heard_same r e = let h = round_range r e in A.masks r heard_kind h.0 h.1 (omega arith)

  votes_same : (r : ℕ) → is_round r ≡ true → votes_mask m r ≡ votes_mask l r
  votes_same r e = let h = round_range r e in A.masks r votes_kind h.0 h.1 (omega arith)

  vertex_same : (r p : ℕ) → vertices m r p ≡ vertices l r p
  unfolding vertices
  vertex_same r p =
      cond_cong (and_cong {a = is_round r} refl (λ e. ap (λ (x : ℕ). has x p) (held_same r e)))
      (λ e. let w = round_range r (and_left _ _ e) in guarded p (λ k. cell_same r p w.0 w.1 k)) refl

  pub vertices_same : vertices m ≡ vertices l
  vertices_same = records_ext (vertices m) (vertices l) vertex_same

  first_same : (r p : ℕ) → firsts m r p ≡ firsts l r p
  unfolding firsts
  first_same r p = go (which (is_round r))
    where
      go : (is_round r ≡ true) ⊎ (is_round r ≡ false) → firsts m r p ≡ firsts l r p
      go (inl e) = rw (heard_same r e, votes_same r e, A.members)
      go (inr e) = rw e

  pub firsts_same : firsts m ≡ firsts l
  firsts_same = records_ext (firsts m) (firsts l) first_same

  pub standing_kept : Standing l → Standing m
  standing_kept S = record {
    size = A.size ∙ S.size;
    members = rw A.members S.members;
    low = rw A.members S.low;
    high = rw A.members S.high;
    valid = rw (A.members, vertices_same) S.valid;
    words = λ r p i a b h k. ap (λ (x : List ℕ). get_or x i 0) (vertex_same r p) ∙ S.words r p i a b h k
        ∙ sym (A.cells (cell_at r p + i) (omega arith) (omega arith));
    held_low = λ r a b. rw (A.masks r held_kind a b (omega arith), A.members) (S.held_low r a b);
    votes_low = λ r a b. rw (A.masks r votes_kind a b (omega arith), A.members) (S.votes_low r a b);
    votes_heard = λ r p a b h. rw (A.masks r heard_kind a b (omega arith)) (S.votes_heard r p a b (rw (A.masks r votes_kind a b (omega arith)) at h));
  }

-- ---- one leader, one id

pub alike_enter : (l : List ℕ) (y : ℕ) → slots ≤ y → y < id_limit → journal_count l < journal_size → Alike l (enter l y)
unfolding enter add_member
alike_enter l y low high h =
    let a = set l (ordered_at (id_round y)) (add (ordered_mask l (id_round y)) (id_member y)) in
    let b = set a (journal_at + journal_count l) y in
    alike_then (alike_set l (ordered_at (id_round y)) (add (ordered_mask l (id_round y)) (id_member y))
    (loose_ordered (id_round y) (omega arith) (omega arith)))
    (alike_then (alike_set a (journal_at + journal_count l) y (loose_entry _ (omega arith) (omega arith)))
    (alike_set b journal_count_at (journal_count l + 1) (loose_head journal_count_at (omega arith) (omega arith))))
