-- Words of a buffer written, a turn at a time or as a part. Assumes nothing.
use mathlib.Core.Path.{◌≡◌, sym, ap, ap₂, ◌∙◌}
use mathlib.Core.List.{List, ◌++◌}
use mathlib.Core.Logic.{◌⊎◌, inl, inr, ⊎_elim}
use Prim.Native.Nat.{ℕ, ◌+◌, ◌-◌, ◌≤◌, ◌<◌}
use native.Mathlib.Numerals.{add-one}
use native.Mathlib.Omega.{arith}
use lib.Dec.{ltb}
use lib.ListN.{length, get_or, set, take, drop, replicate, length-drop, length-replicate}
use lib.Seq.{paste, paste-suc, take_all, length-take-le}
use borrow.Author.Tests.{ltb-true, ltb-false}
use Rattle.record.specs.Layout.{record_size}
use Rattle.record.proofs.Booleans.{which}
use Rattle.ordering.proofs.Copying.{put_pasted}
use Rattle.pending.specs.Layout.{buffer_size, buffer_slots, slot_at}
use Rattle.pending.specs.Buffer.{record_at}
use Rattle.pending.proofs.Slots.{slot_size, slot_word, pasted_other}

-- one word more of a record
pub written_more : (l x : List ℕ) (at place w : ℕ) (rec : List ℕ) (i : ℕ) → at ≡ place → x ≡ paste l place rec i → w ≡ get_or rec i 0
    → place + i < length l → i < length rec → set x (at + i) w ≡ paste l place rec (i + 1)
written_more l x at place w rec i a e d k h =
    ap₂ (λ (n v : ℕ). set x (n + i) v) a d ∙ ap (λ (y : List ℕ). set y (place + i) (get_or rec i 0)) e ∙ paste-suc l place rec i 0 k h
    ∙ ap (λ (n : ℕ). paste l place rec n) (sym (add-one i))

-- the word to be copied is not yet written over
pub unwritten : (l x : List ℕ) (from to at i : ℕ) → at ≡ slot_at from → x ≡ paste l (slot_at to) (record_at l from) i → length l ≡ buffer_size
    → from < buffer_slots → to < buffer_slots → i < record_size → get_or x (at + i) 0 ≡ get_or (record_at l from) i 0
unwritten l x from to at i a e size h k b =
    ap₂ (λ (y : List ℕ) (n : ℕ). get_or y (n + i) 0) e a
    ∙ pasted_other l (slot_at to) (record_at l from) i (slot_at from + i) (omega arith) (omega (arith, slot_size l from size h)) side
    ∙ sym (slot_word l from i b)
  where
    side : (slot_at from + i < slot_at to) ⊎ (slot_at to + i ≤ slot_at from + i)
    side = ⊎_elim (λ t. inl (omega (arith, ltb-true from to t))) (λ t. inr (omega (arith, ltb-false from to t))) (which (ltb from to))

-- a slot that was lent and has come back with the words of a record
pub slot_written : (s rec : List ℕ) (j : ℕ) → length rec ≡ record_size → (at : ℕ) → at ≡ slot_at j → (ys : List ℕ) → ys ≡ rec
    → take at s ++ (ys ++ drop ((at + record_size) - at) (drop at s)) ≡ paste s (slot_at j) rec record_size
slot_written s rec j size at e ys f =
    put_pasted at record_size s ys rec (f ∙ sym (take_all record_size rec (omega arith))) ∙ ap (λ (k : ℕ). paste s k rec record_size) e

-- a part that was lent and has come back with zeros
pub cleared : (s ys : List ℕ) (from to : ℕ) → from ≤ to → to ≤ length s → ys ≡ replicate (length (take (to - from) (drop from s))) 0
    → take from s ++ (ys ++ drop (to - from) (drop from s)) ≡ paste s from (replicate (to - from) 0) (to - from)
cleared s ys from to low high e =
    let n : from + (to - from) - from ≡ to - from = omega arith in
    let long : length (take (to - from) (drop from s)) ≡ to - from =
    length-take-le (to - from) (drop from s) (omega (arith, length-drop from s)) in
    ap (λ (k : ℕ). take from s ++ (ys ++ drop k (drop from s))) (sym n)
    ∙ put_pasted from (to - from) s ys (replicate (to - from) 0)
    (e ∙ ap (λ (k : ℕ). replicate k 0) long ∙ sym (take_all (to - from) (replicate (to - from) 0) (omega (arith, length-replicate {A = ℕ} (to - from) 0))))
