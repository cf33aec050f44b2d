-- One mask after another in the timeouts of a round: both at once, and the round rule once. Assumes nothing.
use mathlib.Core.Path.{◌≡◌, refl, sym, ap, ◌∙◌}
use mathlib.Core.Bool.{Bool, true, ◌||◌, or_assoc}
use mathlib.Core.Logic.{⊎_elim}
use mathlib.Core.List.{List, [], ◌∷◌}
use Prim.Native.Nat.{ℕ, zero, suc, ◌+◌, ◌^◌, ◌≤◌, ◌<◌}
use native.Mathlib.Omega.{arith}
use lib.Bits.{bit_or, or_lt}
use lib.ListN.{length, get_or, set}
use lib.Seq.{get_or-set_other, set-set}
use borrow.Author.Tests.{leb-true}
use Rattle.record.specs.Below.{count}
use Rattle.record.specs.Members.{leader, has, meets, quorum, rounds}
use Rattle.record.proofs.Booleans.{and_left, and_right, and_both, or_cases, or_left, or_right}
use Rattle.record.proofs.Below.{count_mono}
use Rattle.record.proofs.Masks.{has_or, mask_ext, meets_count}
use Rattle.replica.specs.Layout.{current_round_at, member_count_at, held_at, timeouts_at}
use Rattle.replica.specs.State.{member_count, current_round, held_mask, timeouts_mask, add_members}
use Rattle.replica.proofs.Formed.{WellFormed}
use Rattle.commits.specs.Commit.{passable, highest_passable, raise_round}
use Rattle.ordering.proofs.Rule.{quorum_meets, highest_more, raise_as, raise_part}
use Rattle.ordering.proofs.Marks.{formed_joined, join_here, join_other, join_more}

-- ---- the words

-- two words written in either order
set_swap : (l : List ℕ) (i j x y : ℕ) → (i ≡ j → ⊥) → set (set l i x) j y ≡ set (set l j y) i x
set_swap [] i j x y h = refl
set_swap (a ∷ l) zero zero x y h = absurd (h refl)
set_swap (a ∷ l) zero (suc j) x y h = refl
set_swap (a ∷ l) (suc i) zero x y h = refl
set_swap (a ∷ l) (suc i) (suc j) x y h = ap (λ (k : List ℕ). a ∷ k) (set_swap l i j x y (λ e. h (ap suc e)))

-- the current round written before the timeouts or after them
join_round_lem : (l : List ℕ) (r m x : ℕ) → add_members (set l current_round_at x) (timeouts_at r) m ≡ set (add_members l (timeouts_at r) m) current_round_at x
unfolding add_members
join_round_lem l r m x =
    ap (λ (w : ℕ). set (set l current_round_at x) (timeouts_at r) (bit_or w m)) (get_or-set_other l current_round_at (timeouts_at r) x 0 (λ e. omega arith))
    ∙ set_swap l current_round_at (timeouts_at r) x _ (λ e. omega arith)

-- one mask after another is both at once
or_twice : (k a b c : ℕ) → a < 2 ^ k → b < 2 ^ k → c < 2 ^ k → bit_or (bit_or a b) c ≡ bit_or a (bit_or b c)
or_twice k a b c x y z = mask_ext k _ _ (or_lt k _ _ (or_lt k a b x y) z) (or_lt k _ _ x (or_lt k b c y z)) (λ p h. has_or (bit_or a b) c p
    ∙ ap (λ (t : Bool). t || has c p) (has_or a b p) ∙ or_assoc (has a p) (has b p) (has c p)
    ∙ sym (has_or a (bit_or b c) p ∙ ap (λ (t : Bool). has a p || t) (has_or b c p)))

pub join_twice : (l : List ℕ) (at k a b : ℕ) → at < length l → get_or l at 0 < 2 ^ k → a < 2 ^ k → b < 2 ^ k
    → add_members (add_members l at a) at b ≡ add_members l at (bit_or a b)
unfolding add_members
join_twice l at k a b fits x y z =
    set-set l at _ _ ∙ ap (λ (w : ℕ). set l at (bit_or w b)) (join_here l at a fits) ∙ ap (set l at) (or_twice k (get_or l at 0) a b x y z)

-- ---- the round rule after each mask, and once after both

module _ (l : List ℕ) (S : WellFormed l) (r m : ℕ) (low : 1 ≤ r) (high : r ≤ rounds) (small : m < 2 ^ member_count l) where
  abbrev joined : List ℕ
  joined = add_members l (timeouts_at r) m

  fits : timeouts_at r < length l
  fits = omega (arith, S.size)

  J : WellFormed joined
  J = formed_joined l S r m low high small

  other : (j : ℕ) → (j ≡ timeouts_at r → ⊥) → get_or joined j 0 ≡ get_or l j 0
  other = join_other l (timeouts_at r) m fits

  members : member_count joined ≡ member_count l
  members = other member_count_at (λ e. omega arith)

  -- a quorum of timeouts stays one
  quorum_stays : (q : ℕ) → 1 ≤ q → q ≤ rounds → meets (member_count l) (timeouts_mask l q) ≡ true → meets (member_count l) (timeouts_mask joined q) ≡ true
  quorum_stays q a b e =
      let n = member_count l in
      quorum_meets n (timeouts_mask joined q) (rw members at (J.masks.timeouts_low q a b)) (omega (
        arith,
        leb-true (quorum n) (count n (has (timeouts_mask l q))) (sym (meets_count n (timeouts_mask l q) (S.masks.timeouts_low q a b)) ∙ e),
        count_mono n (has (timeouts_mask l q)) (has (timeouts_mask joined q)) (join_more l (timeouts_at r) m fits (timeouts_at q)),
      ))

  -- and so a passable round
  passable_stays : (q : ℕ) → 1 ≤ q → q ≤ rounds → passable l q ≡ true → passable joined q ≡ true
  unfolding passable
  passable_stays q a b e =
      let led = has (held_mask l q) (leader (member_count l) q) in
      let enough = meets (member_count l) (held_mask l q) in
      let later = meets (member_count l) (timeouts_mask joined q) in
      rw (members, other (held_at q) (λ d. omega arith)) (and_both {a = enough} (and_left enough _ e) (⊎_elim
      (λ h. or_left {a = led} later h)
      (λ h. or_right led (quorum_stays q a b h))
      (or_cases led (meets (member_count l) (timeouts_mask l q)) (and_right enough _ e))))

  -- the round rule after each mask gives what it gives once after both
  pub raise_once : raise_round (add_members (raise_round l) (timeouts_at r) m) ≡ raise_round joined
  raise_once = raise_as l (λ k. raise_round (add_members k (timeouts_at r) m) ≡ raise_round joined) (λ e. refl)
      (λ up. ap raise_round (join_round_lem l r m (1 + highest_passable l rounds))
      ∙ raise_part joined (1 + highest_passable l rounds) (omega (arith, J.size)) (omega (arith, now, top, up)) (omega (arith, top)))
    where
      top : highest_passable l rounds ≤ highest_passable joined rounds
      top = highest_more l joined rounds passable_stays

      now : current_round joined ≡ current_round l
      now = other current_round_at (λ e. omega arith)
