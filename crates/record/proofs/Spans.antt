-- The words of a part k long, from a on, as a loop over the part meets them. Assumes nothing.
use mathlib.Core.Path.{◌≡◌, ◌∙◌}
use mathlib.Core.List.{List}
use Prim.Native.Nat.{ℕ, ◌+◌, ◌-◌, ◌≤◌, ◌<◌}
use native.Mathlib.Omega.{arith}
use lib.ListN.{length, get_or, take, drop, length-drop}
use lib.Seq.{length-take-le, get_or-take, get_or-drop}

-- there are k, and word i is that of the whole at a + i
pub span_words : (l : List ℕ) (a k i : ℕ) → a + k ≤ length l
    → (length (take (a + k - a) (drop a l)) ≡ k) × (i < k → get_or (take (a + k - a) (drop a l)) i 0 ≡ get_or l (a + i) 0)
span_words l a k i h =
    let e : a + k - a ≡ k = omega arith in
    rw e (length-take-le k (drop a l) (omega (arith, length-drop a l)), λ b. get_or-take k (drop a l) i 0 b ∙ get_or-drop a l i 0)
