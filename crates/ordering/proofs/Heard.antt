-- A first message by its strong mask alone: what the state keeps of it. Assumes nothing.
use mathlib.Core.Path.{◌≡◌, sym, ◌∙◌}
use mathlib.Core.Bool.{Bool, true, false}
use mathlib.Core.List.{List, [], ◌∷◌}
use Prim.Native.Nat.{ℕ, ◌+◌, ◌-◌, ◌≤◌, ◌<◌}
use native.Mathlib.Omega.{arith}
use lib.ListN.{get_or}
use lib.Seq.{get_or-drop}
use Rattle.record.specs.Members.{leader, has, rounds}
use Rattle.record.specs.Layout.{body_of, strong_of, body_place, strong_place}
use Rattle.record.proofs.Masks.{leader_small, has_zero}
use Rattle.replica.specs.Layout.{masks_at, heard_kind, votes_kind}
use Rattle.replica.specs.State.{member_count, add_member}
use Rattle.ordering.specs.Calls.{hear}

-- what is known where the source is heard and the words are m: its votes are marked next if it votes for the leader, and in round 1 no one votes
pub record Marked (l : List ℕ) (r p n strong at : ℕ) (m : List ℕ) : Type 0 where
  pub small : leader n (r - 1) < 32
  pub first : r < 2 → m ≡ hear l r p (strong ∷ [])
  pub silent : (x : ℕ) → x ≡ leader n (r - 1) → (t : Bool) → t ≡ has strong x → t ≡ false → m ≡ hear l r p (strong ∷ [])
  pub voting : (x : ℕ) → x ≡ leader n (r - 1) → (t : Bool) → t ≡ has strong x → t ≡ true → (o : List ℕ) → o ≡ add_member m (at + votes_kind) p
      → o ≡ hear l r p (strong ∷ [])

module _ (l : List ℕ) (r p n strong : ℕ) (e : n ≡ member_count l) (low : 1 ≤ r) (high : r ≤ rounds) (z : r ≡ 1 → strong ≡ 0) (at : ℕ) (a : at ≡ masks_at r)
    (m : List ℕ) (d : m ≡ add_member l (at + heard_kind) p) where
  hear_silent : has strong (leader n (r - 1)) ≡ false → m ≡ hear l r p (strong ∷ [])
  unfolding hear strong_of
  hear_silent h = rw (d, a, ← e, h)

  pub marked : Marked l r p n strong at m
  unfolding hear strong_of
  marked = record {
    small = leader_small n (r - 1) (omega arith);
    first = λ k. hear_silent (rw (z (omega arith), has_zero));
    silent = λ x q t g h. hear_silent (sym (rw q at g) ∙ h);
    voting = λ x q t g h o f. let v : has strong (leader n (r - 1)) ≡ true = sym (rw q at g) ∙ h in rw (f, d, a, ← e, v);
  }

-- the body of a record is heard as its strong mask is
pub hear_body : (l : List ℕ) (r p : ℕ) (rec : List ℕ) → hear l r p (get_or rec (body_place + strong_place) 0 ∷ []) ≡ hear l r p (body_of rec)
unfolding hear strong_of
hear_body l r p rec = rw (get_or-drop body_place rec strong_place 0)
