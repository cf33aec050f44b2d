-- Words that are zero. Assumes nothing.
use mathlib.Core.Path.{◌≡◌, sym, ap, ◌∙◌}
use mathlib.Core.Bool.{Bool, ◌&&◌, ◌||◌}
use mathlib.Core.Logic.{⊎_elim}
use mathlib.Core.List.{List}
use Prim.Native.Nat.{ℕ, ◌+◌, ◌-◌, ◌≤◌, ◌<◌}
use native.Mathlib.Numerals.{add-one}
use native.Mathlib.Omega.{arith}
use lib.Bits.{bit_or}
use lib.Dec.{eqb, ltb}
use lib.ListN.{length, get_or, take, drop, length-drop}
use lib.Seq.{length-take-le, get_or-take, get_or-drop}
use borrow.Author.Tests.{ltb-false, le-ltb}
use Rattle.record.specs.Below.{all}
use Rattle.record.proofs.Booleans.{which, never, or_left, or_right, or_cases, bool_ext}
use Rattle.record.proofs.Below.{all_cong, all_elim, all_intro}
use Rattle.record.proofs.Masks.{or_zero}

pub all_suc : (i : ℕ) (t : ℕ → Bool) → all (i + 1) t ≡ (all i t && t i)
unfolding all
all_suc i t = rw (add-one i)

-- a turn of the loop that joins the words
pub zero_more : (part : List ℕ) (joined i : ℕ) → eqb joined 0 ≡ all i (λ k. eqb (get_or part k 0) 0)
    → eqb (bit_or joined (get_or part i 0)) 0 ≡ all (i + 1) (λ k. eqb (get_or part k 0) 0)
zero_more part joined i e =
    or_zero joined (get_or part i 0) ∙ ap (λ (b : Bool). b && eqb (get_or part i 0) 0) e ∙ sym (all_suc i (λ k. eqb (get_or part k 0) 0))

-- every word of the part from one place to another is 0
abbrev pub blank : List ℕ → ℕ → ℕ → Bool
blank l at end = all (length (take (end - at) (drop at l))) (λ i. eqb (get_or (take (end - at) (drop at l)) i 0) 0)

-- the words of a part are those of the whole
pub part_zero : (l : List ℕ) (a k : ℕ) → a + k ≤ length l
    → all (length (take k (drop a l))) (λ i. eqb (get_or (take k (drop a l)) i 0) 0) ≡ all k (λ i. eqb (get_or l (a + i) 0) 0)
part_zero l a k h =
    rw (length-take-le k (drop a l) (omega (arith, length-drop a l)))
    (all_cong k (λ i. eqb (get_or (take k (drop a l)) i 0) 0) (λ i. eqb (get_or l (a + i) 0) 0)
    (λ i b. ap (λ (x : ℕ). eqb x 0) (get_or-take k (drop a l) i 0 b ∙ get_or-drop a l i 0)))

-- the words of a list of so many from the count on
rest_words : (l : List ℕ) (at size count : ℕ) → count ≤ size
    → all (size - count) (λ i. eqb (get_or l (at + count + i) 0) 0) ≡ all size (λ i. ltb i count || eqb (get_or l (at + i) 0) 0)
rest_words l at size count h =
    bool_ext
    (λ e. all_intro size (λ i. ltb i count || eqb (get_or l (at + i) 0) 0)
    (λ i b. ⊎_elim
    (λ t. or_left (eqb (get_or l (at + i) 0) 0) t)
    (λ t. let g : count ≤ i = ltb-false i count t in
    let same : at + count + (i - count) ≡ at + i = omega arith in
    let low : i - count < size - count = omega arith in
    or_right (ltb i count) (rw same at (all_elim (size - count) (λ k. eqb (get_or l (at + count + k) 0) 0) e (i - count) low)))
    (which (ltb i count))))
    (λ e. all_intro (size - count) (λ i. eqb (get_or l (at + count + i) 0) 0)
    (λ i b. let same : at + (count + i) ≡ at + count + i = omega arith in
    rw same at (⊎_elim
    (λ t. never t (le-ltb (count + i) count (omega arith)))
    (λ t. t)
    (or_cases (ltb (count + i) count) (eqb (get_or l (at + (count + i)) 0) 0)
    (all_elim size (λ k. ltb k count || eqb (get_or l (at + k) 0) 0) e (count + i) (omega arith))))))

-- the part from the count to the end of the list
pub rest_part : (l : List ℕ) (at size count : ℕ) → count ≤ size → at + size ≤ length l
    → blank l (at + count) (at + size) ≡ all size (λ i. ltb i count || eqb (get_or l (at + i) 0) 0)
rest_part l at size count h k =
    let d : (at + size) - (at + count) ≡ size - count = omega arith in
    rw d (part_zero l (at + count) (size - count) (omega arith) ∙ rest_words l at size count h)
