-- Two parts of as many words, compared by `==`. Assumes nothing.
use mathlib.Core.Path.{◌≡◌, sym, ap, ◌∙◌}
use mathlib.Core.List.{List}
use Prim.Native.Nat.{ℕ, ◌+◌, ◌-◌, ◌≤◌}
use native.Mathlib.Omega.{arith}
use lib.Dec.{eqb}
use lib.ListN.{length, get_or, take, drop, length-drop}
use lib.Seq.{get_or-take, get_or-drop, length-take-le, ext_get_or}
use borrow.Author.Tests.{eqb-true, eq-eqb}
use Rattle.std.specs.Str.{bytes_eq}
use Rattle.std.proofs.lemmas.Slice.Eq.{bytes_eq-Decides}
use Rattle.record.specs.Below.{all}
use Rattle.record.proofs.Booleans.{bool_ext}
use Rattle.record.proofs.Below.{all_elim, all_intro, all_cong}

-- they are the same exactly if each word is
pub compared : (k : ℕ) (xs ys : List ℕ) → length xs ≡ k → length ys ≡ k → bytes_eq xs ys ≡ all k (λ i. eqb (get_or xs i 0) (get_or ys i 0))
compared k xs ys a b = bool_ext
    (λ e. all_intro k _ (λ i h. eq-eqb _ _ (ap (λ (x : List ℕ). get_or x i 0) ((bytes_eq-Decides xs ys).0 e))))
    (λ e. (bytes_eq-Decides xs ys).1 (ext_get_or 0 xs ys (a ∙ sym b) (λ i h. eqb-true _ _ (all_elim k _ e i (omega arith)))))

-- so of a part that was lent for the comparison
pub part_compared : (k at : ℕ) (l ys : List ℕ) → at + k ≤ length l → length ys ≡ k
    → bytes_eq (take (at + k - at) (drop at l)) ys ≡ all k (λ i. eqb (get_or l (at + i) 0) (get_or ys i 0))
part_compared k at l ys fits long =
    let n : at + k - at ≡ k = omega arith in
    ap (λ (m : ℕ). bytes_eq (take m (drop at l)) ys) n
    ∙ compared k (take k (drop at l)) ys (length-take-le k (drop at l) (omega (arith, length-drop at l))) long
    ∙ all_cong k _ _ (λ i h. ap (λ (x : ℕ). eqb x (get_or ys i 0)) (get_or-take k (drop at l) i 0 h ∙ get_or-drop at l i 0))
