-- Laws of the cells. Assumes nothing.
use mathlib.Core.Path.{◌≡◌, refl, sym, ap, ap₂, ◌∙◌}
use mathlib.Core.Bool.{Bool, true, false, not, ◌&&◌}
use mathlib.Core.Logic.{◌⊎◌, inl, inr}
use mathlib.Core.List.{List}
use Prim.Native.Nat.{ℕ, zero, suc, ◌+◌, ◌-◌, ◌*◌, ◌^◌, ◌≤◌, ◌<◌}
use native.Mathlib.Omega.{arith}
use lib.Dec.{eqb}
use lib.ListN.{length, get_or, take, drop, length-drop}
use lib.Seq.{length-take-le}
use Rattle.record.specs.Below.{all}
use Rattle.record.specs.Members.{legal, has, rounds, slots}
use Rattle.record.proofs.Booleans.{which, cond_true, cond_false, and_fails_left, passed, failed}
use Rattle.record.proofs.Below.{all_none, all_cong, all_join}
use Rattle.record.proofs.Masks.{has_zero, has_bound, legal_range}
use Rattle.record.specs.Layout.{body_size}
use Rattle.replica.specs.Layout.{cell_at, state_size, round_size}
use Rattle.replica.specs.State.{member_count, held_mask, cell}
use Rattle.replica.specs.WellFormed.{each_round, masks_within, record_ok, cell_ok}
use Rattle.replica.specs.Inner.{GroupedRound, KnownIn}
use Rattle.record.proofs.Zeros.{blank, part_zero}
use Rattle.replica.proofs.Words.{masks_small, round_elim}

-- the lent part is the cell
cell_part : (l : List ℕ) (at a : ℕ) → at ≡ a → take ((at + body_size) - at) (drop at l) ≡ take body_size (drop a l)
cell_part l at a e =
    let ten : (at + body_size) - at ≡ body_size = omega arith in
    rw (ten, e)

-- a cell that is not held
cell_empty : (l : List ℕ) (r p : ℕ) → has (held_mask l r) p ≡ false → cell_ok l r p ≡ all body_size (λ i. eqb (get_or l (cell_at r p + i) 0) 0)
unfolding cell_ok
cell_empty l r p e = cond_false _ _ e

-- a held cell, whose record decides
pub cell_held : (l : List ℕ) (r p : ℕ) (body : List ℕ) → has (held_mask l r) p ≡ true → body ≡ cell l r p
    → record_ok l r p body ≡ cell_ok l r p
unfolding cell_ok
cell_held l r p body h e = rw e (sym (cond_true _ _ h))

-- the lent part from one place to another
words_part : (l : List ℕ) (at end a k : ℕ) → at ≡ a → end ≡ a + k → a + k ≤ length l
    → blank l at end ≡ all k (λ i. eqb (get_or l (a + i) 0) 0)
words_part l at end a k e f h =
    let d : end - at ≡ k = omega arith in
    rw (d, e) (part_zero l a k h)

-- the part is as long as a body
cell_long : (l : List ℕ) (r p at : ℕ) → length l ≡ state_size → r ≤ rounds → p < slots → at ≡ cell_at r p
    → length (take ((at + body_size) - at) (drop at l)) ≡ body_size
cell_long l r p at size high few place =
    ap length (cell_part l at (cell_at r p) place) ∙ length-take-le body_size (drop (cell_at r p) l) (omega (arith, length-drop (cell_at r p) l))

module _ (l : List ℕ) (r p at h : ℕ) (b : Bool) (place : at ≡ cell_at r p) (mask : h ≡ held_mask l r) (bit : b ≡ has h p) where
  -- nobody holds the cell
  pub cell_blank : length l ≡ state_size → r ≤ rounds → p < slots → not b ≡ true → (z : Bool) → z ≡ blank l at (at + body_size) → z ≡ cell_ok l r p
  cell_blank size high few t z e =
      e ∙ words_part l at (at + body_size) (cell_at r p) body_size place (omega arith) (omega arith) ∙ sym (cell_empty l r p (failed (rw mask at bit) t))

  -- or it is held: of its record 4 to 6 are answered yes, and it decides
  pub cell_known : not b ≡ false → p < slots → (n : ℕ) → GroupedRound l n r → KnownIn l n r p (take ((at + body_size) - at) (drop at l))
  cell_known held few n g = rw g.members (record {
    words = g.words;
    members = refl;
    known = record {
      round_low = g.low;
      round_high = g.high;
      source_low = has_bound _ _ _ (masks_small l r (round_elim (masks_within l) g.words.masks r g.low g.high)).held (passed (rw mask at bit) held);
      size = cell_long l r p at g.words.size g.high few place;
    };
  })

  pub cell_decides : not b ≡ false → (z : Bool) → z ≡ record_ok l r p (take ((at + body_size) - at) (drop at l)) → z ≡ cell_ok l r p
  cell_decides t z e = e ∙ cell_held l r p _ (passed (rw mask at bit) t) (cell_part l at _ place)

-- ---- cells that nobody holds, together

-- the words of k cells from member a on
cells_zero : (l : List ℕ) (r a k : ℕ)
    → all (body_size * k) (λ i. eqb (get_or l (cell_at r a + i) 0) 0) ≡ all k (λ p. all body_size (λ i. eqb (get_or l (cell_at r (a + p) + i) 0) 0))
unfolding all
cells_zero l r a zero = refl
cells_zero l r a (suc k) =
    ap (λ (m : ℕ). all m (λ i. eqb (get_or l (cell_at r a + i) 0) 0)) more
    ∙ all_join (body_size * k) body_size (λ i. eqb (get_or l (cell_at r a + i) 0) 0)
    ∙ ap₂ ◌&&◌ (cells_zero l r a k) (all_cong body_size _ _ (λ i b. ap (λ (m : ℕ). eqb (get_or l m 0) 0) (place i)))
  where
    more : body_size * suc k ≡ body_size * k + body_size
    more = omega arith

    place : (i : ℕ) → cell_at r a + (body_size * k + i) ≡ cell_at r (a + k) + i
    place i = omega arith

-- all cells of a round that holds nothing
round_empty : (l : List ℕ) (r : ℕ) → held_mask l r ≡ 0 → all round_size (λ i. eqb (get_or l (cell_at r 0 + i) 0) 0) ≡ all slots (cell_ok l r)
unfolding all
round_empty l r e = cells_zero l r 0 slots ∙ all_cong slots _ _ (λ p b. sym (cell_empty l r p (ap (λ (m : ℕ). has m p) e ∙ has_zero p)))

-- the cells from n on
round_rest : (l : List ℕ) (r n : ℕ) → n ≤ slots → held_mask l r < 2 ^ n
    → (all n (cell_ok l r) && all (body_size * (slots - n)) (λ i. eqb (get_or l (cell_at r n + i) 0) 0)) ≡ all slots (cell_ok l r)
round_rest l r n h w =
    ap (λ (b : Bool). all n (cell_ok l r) && b) (cells_zero l r n (slots - n)
    ∙ all_cong (slots - n) _ _ (λ p b. sym (cell_empty l r (n + p) (beyond p (which (has (held_mask l r) (n + p)))))))
    ∙ sym (all_join n (slots - n) (cell_ok l r)) ∙ ap (λ (m : ℕ). all m (cell_ok l r)) whole
  where
    whole : n + (slots - n) ≡ slots
    whole = omega arith

    beyond : (p : ℕ) → (has (held_mask l r) (n + p) ≡ true) ⊎ (has (held_mask l r) (n + p) ≡ false) → has (held_mask l r) (n + p) ≡ false
    beyond p (inl d) = absurd (omega (arith, has_bound n (held_mask l r) (n + p) w d))
    beyond p (inr d) = d

module _ (l : List ℕ) (r start : ℕ) (size : length l ≡ state_size) (low : 1 ≤ r) (high : r ≤ rounds) (place : start ≡ cell_at r 0) where
  -- nothing is held
  pub round_blank : (h : ℕ) (z : Bool) → h ≡ held_mask l r → h ≡ 0 → z ≡ blank l start (start + round_size) → z ≡ all slots (cell_ok l r)
  round_blank h z eh e ez =
      ez ∙ words_part l start (start + round_size) (cell_at r 0) round_size place (omega arith) (omega arith) ∙ round_empty l r (sym eh ∙ e)

  -- or the cells of the members and then the others decide
  module _ (n : ℕ) (en : n ≡ member_count l) (g : legal (member_count l) ≡ true) (w : each_round (masks_within l) ≡ true) (m : Bool)
      (em : m ≡ all n (cell_ok l r)) where
    decides : (all (n) (cell_ok l r) && all (body_size * (slots - n)) (λ i. eqb (get_or l (cell_at r (n) + i) 0) 0))
        ≡ all slots (cell_ok l r)
    decides = round_rest l r n (rw en (legal_range _ g).high) (rw en (masks_small l r (round_elim (masks_within l) w r low high)).held)

    pub members_no : not m ≡ true → false ≡ all slots (cell_ok l r)
    members_no t = sym (sym decides ∙ and_fails_left _ (failed em t))

    pub others_decide : not m ≡ false → (z : Bool)
        → z ≡ all (body_size * (slots - n)) (λ i. eqb (get_or l (start + body_size * n + i) 0) 0)
        → z ≡ all slots (cell_ok l r)
    others_decide t z ez =
        let rest : start + body_size * n ≡ cell_at r (n) = omega arith in
        ez ∙ ap (λ (a : ℕ). all (body_size * (slots - n)) (λ i. eqb (get_or l (a + i) 0) 0)) rest ∙ rw (passed em t) at decides

-- the cells from n on, for each n
pub record RestCells (l : List ℕ) (n start : ℕ) : Type 0 where
  pub some : (k : ℕ) (z : Bool) → n ≡ k → z ≡ blank l (start + body_size * k) (start + round_size)
      → z ≡ all (body_size * (slots - n)) (λ i. eqb (get_or l (start + body_size * n + i) 0) 0)
  pub none : (n ≡ 4 → ⊥) → (n ≡ 7 → ⊥) → (n ≡ 10 → ⊥) → (n ≡ 13 → ⊥)
      → true ≡ all (body_size * (slots - n)) (λ i. eqb (get_or l (start + body_size * n + i) 0) 0)

pub rest_cells : (l : List ℕ) (n start : ℕ) → legal n ≡ true → start + round_size ≤ length l → RestCells l n start
rest_cells l n start g h =
    let q = legal_range n g in record {
      some = λ k z e ez. rw e (ez ∙ words_part l (start + body_size * k) (start + round_size) (start + body_size * k) (body_size * (slots - k)) refl
          (omega arith) (omega arith));
      none = λ a b c d. let e : n ≡ slots = omega arith in rw e (sym (all_none _));
    }
