-- A part of some words that was lent and written. Assumes nothing.
use mathlib.Core.Path.{◌≡◌, sym, ap, ap₂, ◌∙◌}
use mathlib.Core.List.{List, ◌++◌, append_assoc}
use Prim.Native.Nat.{ℕ, ◌+◌, ◌-◌, ◌≤◌, ◌<◌}
use native.Mathlib.Omega.{arith}
use lib.ListN.{length, get_or, take, drop, get_or-append}
use lib.Seq.{take_all, take_at, drop_at, drop-drop, drop-append-le, get_or-take, get_or-drop, length-take-le, paste}
use lib.Seq.{length_paste_head, take-paste, drop-paste}
use Rattle.replica.specs.Layout.{masks_at, cell_at, held_kind}
use Rattle.ordering.specs.Calls.{put_vertex}
use Rattle.replica.specs.State.{add_member}
use Rattle.record.specs.Layout.{body_size}

-- a part that was lent and has come back with other words
pub put_pasted : (a k : ℕ) (d ys s : List ℕ) → ys ≡ take k s → take a d ++ (ys ++ drop ((a + k) - a) (drop a d)) ≡ paste d a s k
put_pasted a k d ys s e =
    let n : a + ((a + k) - a) ≡ a + k = omega arith in
    ap₂ (λ (y z : List ℕ). take a d ++ (y ++ z)) e (drop-drop ((a + k) - a) a d ∙ ap (λ (m : ℕ). drop m d) n)
    ∙ sym (append_assoc (take a d) (take k s) (drop (a + k) d))

-- a vertex marked held at the masks of its round, and its body in the cell that was lent
pub vertex_put : (l : List ℕ) (r p : ℕ) (body : List ℕ) → length body ≡ body_size → (at : ℕ) → at ≡ masks_at r → (m : List ℕ)
    → m ≡ add_member l (at + held_kind) p
    → (a : ℕ) → a ≡ cell_at r p → (ys : List ℕ) → ys ≡ body → take a m ++ (ys ++ drop ((a + body_size) - a) (drop a m)) ≡ put_vertex l r p body
unfolding put_vertex
vertex_put l r p body size at e m d a f ys g = put_pasted a body_size m ys body (g ∙ sym (take_all body_size body (omega arith))) ∙ rw (d, e, f)

-- ---- words written over a part

module _ (d : List ℕ) (at : ℕ) (s : List ℕ) (n : ℕ) (fits : at + n ≤ length d) (long : length s ≡ n) where
  -- the words before, the words after, and those written
  pub paste_before : (j : ℕ) → j < at → get_or (paste d at s n) j 0 ≡ get_or d j 0
  paste_before j h =
      sym (get_or-take (at + n) (paste d at s n) j 0 (omega arith))
      ∙ ap (λ (x : List ℕ). get_or x j 0) (take-paste d at s n (omega arith) (omega arith))
      ∙ get_or-append (take at d) (take n s) 0 j (omega (arith, length-take-le at d (omega arith)))
      ∙ get_or-take at d j 0 h

  pub paste_after : (j : ℕ) → at + n ≤ j → get_or (paste d at s n) j 0 ≡ get_or d j 0
  paste_after j h =
      ap (λ (i : ℕ). get_or (paste d at s n) i 0) whole ∙ sym (get_or-drop (at + n) (paste d at s n) (j - (at + n)) 0)
      ∙ ap (λ (x : List ℕ). get_or x (j - (at + n)) 0) (drop-paste d at s n (omega arith) (omega arith))
      ∙ get_or-drop (at + n) d (j - (at + n)) 0 ∙ ap (λ (i : ℕ). get_or d i 0) (sym whole)
    where
      whole : j ≡ at + n + (j - (at + n))
      whole = omega arith

  pub paste_part : take n (drop at (paste d at s n)) ≡ s
  paste_part =
      ap (take n) (drop-append-le at (take at d ++ take n s) (drop (at + n) d) (omega (arith, length_paste_head d at s n (omega arith) (omega arith)))
      ∙ ap (λ (x : List ℕ). x ++ drop (at + n) d) (drop_at (take at d) (take n s) at (length-take-le at d (omega arith))))
      ∙ take_at (take n s) (drop (at + n) d) n (length-take-le n s (omega arith)) ∙ take_all n s (omega arith)
