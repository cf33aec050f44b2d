-- A record put in its slot: those from there on move up by one, from the last one down. Assumes nothing.
use mathlib.Core.Path.{◌≡◌, refl, sym, ap, ap₂, ◌∙◌}
use mathlib.Core.Logic.{⊎_elim}
use mathlib.Core.List.{List, ◌∷◌, ◌++◌}
use Prim.Native.Nat.{ℕ, suc, ◌+◌, ◌-◌, ◌≤◌, ◌<◌}
use native.Mathlib.Omega.{arith}
use lib.Dec.{eqb}
use lib.ListN.{length, get_or, take, drop, set, length-set}
use lib.Seq.{take_at, drop_at, get_or-set_same, get_or-set_other, paste}
use borrow.Author.Tests.{eqb-true, eqb-false}
use Rattle.record.specs.Layout.{record_size}
use Rattle.record.proofs.Booleans.{which}
use Rattle.pending.specs.Layout.{buffer_size, buffer_slots, count_place, slot_at}
use Rattle.pending.specs.Buffer.{record_id, put_in, count_of, record_at, records_from, records_in, buffer_of}
use Rattle.pending.specs.Inner.{rank}
use Rattle.pending.proofs.Slots.{Zeros, buffer_laid, slot_same, slot_size, records_same, records_join, records_length, over_size, over_here, over_there}
use Rattle.pending.proofs.Slots.{over_before, over_after}
use Rattle.pending.proofs.Order.{Formed, put_split}

-- ---- the count written

module _ (s : List ℕ) (k : ℕ) (size : length s ≡ buffer_size) where
  pub counted_size : length (set s count_place k) ≡ buffer_size
  counted_size = length-set s count_place k ∙ size

  pub counted : count_of (set s count_place k) ≡ k
  counted = get_or-set_same s count_place k 0 (omega arith)

  pub counted_word : (i : ℕ) → 1 ≤ i → get_or (set s count_place k) i 0 ≡ get_or s i 0
  counted_word i h = get_or-set_other s count_place i k 0 (λ d. omega arith)

  pub counted_slot : (j : ℕ) → j < buffer_slots → record_at (set s count_place k) j ≡ record_at s j
  counted_slot j h = slot_same (set s count_place k) s j counted_size size h (λ i a b. counted_word i (omega arith))

-- the records up to slot j, and those from there on
records_split : (s : List ℕ) (j c : ℕ) → j ≤ c → records_from s 0 c ≡ records_from s 0 j ++ records_from s j (c - j)
records_split s j c h =
    let n : c ≡ j + (c - j) = omega arith in
    let m : 0 + j ≡ j = omega arith in
    ap (records_from s 0) n ∙ records_join s 0 j (c - j) ∙ ap (λ (i : ℕ). records_from s 0 j ++ records_from s i (c - j)) m

pub records_take : (s : List ℕ) (j c : ℕ) → j ≤ c → take j (records_from s 0 c) ≡ records_from s 0 j
records_take s j c h = ap (take j) (records_split s j c h) ∙ take_at (records_from s 0 j) (records_from s j (c - j)) j (records_length s 0 j)

pub records_drop : (s : List ℕ) (j c : ℕ) → j ≤ c → drop j (records_from s 0 c) ≡ records_from s j (c - j)
records_drop s j c h = ap (drop j) (records_split s j c h) ∙ drop_at (records_from s 0 j) (records_from s j (c - j)) j (records_length s 0 j)

-- ---- the loop

-- the buffer b, once the records of s from slot i up to the count c have moved up
pub record Moved (s b : List ℕ) (i c : ℕ) : Type 0 where
  pub size : length b ≡ buffer_size
  pub count : count_of b ≡ count_of s
  pub low : (d : ℕ) → d < i → record_at b d ≡ record_at s d
  pub high : (d : ℕ) → i ≤ d → d < c → record_at b (d + 1) ≡ record_at s d
  pub zeros : Zeros b (c + 1)

-- none has
pub moved_none : (n : ℕ) (s : List ℕ) → Formed n s → Moved s s (count_of s) (count_of s)
moved_none n s F = record {
  size = F.size;
  count = refl;
  low = λ d h. refl;
  high = λ d a b. absurd (omega arith);
  zeros = λ k a b. F.zeros k (omega arith) b;
}

-- one more does
pub moved_more : (s b t : List ℕ) (i c : ℕ) → Moved s b (i + 1) c → i + 1 ≤ c → c < buffer_slots → t ≡ paste b (slot_at (i + 1)) (record_at b i) record_size
    → Moved s t i c
moved_more s b t i c M h few e =
    let long = slot_size b i M.size (omega arith) in
    let up : i + 1 < buffer_slots = omega arith in
    rw e (record {
      size = over_size b (i + 1) (record_at b i) M.size up long;
      count = over_before b (i + 1) (record_at b i) M.size up long count_place (omega arith) ∙ M.count;
      low = λ d k. over_there b (i + 1) (record_at b i) M.size up long d (omega arith) (λ q. omega arith) ∙ M.low d (omega arith);
      high = λ d k l. ⊎_elim (λ q. here d (eqb-true d i q)) (λ q. there d k l (eqb-false d i q)) (which (eqb d i));
      zeros = λ k x y. over_after b (i + 1) (record_at b i) M.size up long k (omega arith) ∙ M.zeros k x y;
    })
  where
    here : (d : ℕ) → d ≡ i → record_at (paste b (slot_at (i + 1)) (record_at b i) record_size) (d + 1) ≡ record_at s d
    here d q = rw q (over_here b (i + 1) (record_at b i) M.size (omega arith) (slot_size b i M.size (omega arith)) ∙ M.low i (omega arith))

    there : (d : ℕ) → i ≤ d → d < c → (d ≡ i → ⊥) → record_at (paste b (slot_at (i + 1)) (record_at b i) record_size) (d + 1) ≡ record_at s d
    there d k l q = over_there b (i + 1) (record_at b i) M.size (omega arith) (slot_size b i M.size (omega arith)) (d + 1) (omega arith)
        (λ x. q (omega arith)) ∙ M.high d (omega (arith, q)) l

-- ---- the record in its slot, and the count

module _ (n : ℕ) (s b t rec : List ℕ) (j : ℕ) (F : Formed n s) (M : Moved s b j (count_of s)) (few : count_of s < buffer_slots) (le : j ≤ count_of s)
    (long : length rec ≡ record_size) (e : t ≡ set (paste b (slot_at j) rec record_size) count_place (count_of s + 1)) where
  abbrev put : List ℕ
  put = paste b (slot_at j) rec record_size

  put_size : length put ≡ buffer_size
  put_size = over_size b j rec M.size (omega arith) long

  t_size : length t ≡ buffer_size
  t_size = ap length e ∙ counted_size put (count_of s + 1) put_size

  t_count : count_of t ≡ count_of s + 1
  t_count = ap count_of e ∙ counted put (count_of s + 1) put_size

  t_slot : (d : ℕ) → d < buffer_slots → record_at t d ≡ record_at put d
  t_slot d h = ap (λ (x : List ℕ). record_at x d) e ∙ counted_slot put (count_of s + 1) put_size d h

  t_low : records_from t 0 j ≡ records_from s 0 j
  t_low = records_same t s 0 0 j (λ d h.
      t_slot (0 + d) (omega arith) ∙ over_there b j rec M.size (omega arith) long (0 + d) (omega arith) (λ q. omega arith) ∙ M.low (0 + d) (omega arith))

  t_high : records_from t (j + 1) (count_of s - j) ≡ records_from s j (count_of s - j)
  t_high = records_same t s (j + 1) j (count_of s - j) slot
    where
      slot : (d : ℕ) → d < count_of s - j → record_at t (j + 1 + d) ≡ record_at s (j + d)
      slot d h =
          let k : j + 1 + d ≡ j + d + 1 = omega arith in
          t_slot (j + 1 + d) (omega arith) ∙ over_there b j rec M.size (omega arith) long (j + 1 + d) (omega arith) (λ q. omega arith)
          ∙ ap (record_at b) k ∙ M.high (j + d) (omega arith) (omega arith)

  t_records : records_in t ≡ records_from s 0 j ++ rec ∷ records_from s j (count_of s - j)
  unfolding records_from
  t_records =
      let k : count_of t ≡ j + (1 + (count_of s - j)) = omega (arith, t_count) in
      let m : 0 + j ≡ j = omega arith in
      ap (records_from t 0) k ∙ records_join t 0 j (1 + (count_of s - j))
      ∙ ap₂ (λ (x y : List (List ℕ)). x ++ y) t_low (ap (λ (i : ℕ). records_from t i (1 + (count_of s - j))) m ∙ last)
    where
      last : records_from t j (1 + (count_of s - j)) ≡ rec ∷ records_from s j (count_of s - j)
      last =
          let k : 1 + (count_of s - j) ≡ suc (count_of s - j) = omega arith in
          let m : suc j ≡ j + 1 = omega arith in
          ap (records_from t j) k
          ∙ ap₂ (λ (x : List ℕ) (y : List (List ℕ)). x ∷ y) (t_slot j (omega arith) ∙ over_here b j rec M.size (omega arith) long)
          (ap (λ (i : ℕ). records_from t i (count_of s - j)) m ∙ t_high)

  t_zeros : Zeros t (count_of t)
  t_zeros i a h =
      let k : slot_at (count_of s + 1) ≤ i = omega (arith, t_count) in
      ap (λ (x : List ℕ). get_or x i 0) e ∙ counted_word put (count_of s + 1) put_size i (omega arith)
      ∙ over_after b j rec M.size (omega arith) long i (omega arith) ∙ M.zeros i k h

  pub put_done : j ≡ rank (records_in s) (record_id rec) → t ≡ buffer_of (put_in rec (records_in s))
  put_done d =
      buffer_laid t t_size (omega (arith, t_count)) t_zeros
      ∙ ap buffer_of (t_records ∙ sym (put_split rec (records_in s)
      ∙ ap (λ (i : ℕ). take i (records_in s) ++ rec ∷ drop i (records_in s)) (sym d)
      ∙ ap₂ (λ (x y : List (List ℕ)). x ++ rec ∷ y) (records_take s j (count_of s) le) (records_drop s j (count_of s) le)))
