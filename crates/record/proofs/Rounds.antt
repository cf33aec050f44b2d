-- Laws of the rounds, and of the ids that are of one. Assumes nothing.
use mathlib.Core.Path.{◌≡◌}
use mathlib.Core.Bool.{true, false}
use Prim.Native.Nat.{ℕ, ◌≤◌, ◌<◌}
use native.Mathlib.Omega.{arith}
use lib.Dec.{leb, ltb}
use borrow.Author.Tests.{leb-true, le-leb, lt-leb, ltb-true, lt-ltb}
use Rattle.record.specs.Members.{is_round, id_round, rounds, slots, id_limit, id_member, id_of}
use Rattle.record.proofs.Booleans.{and_left, and_right, and_both, and_fails_left, bool_ext}

-- exactly the numbers from 1 to 32 are rounds
pub round_in : (r : ℕ) → 1 ≤ r → r ≤ rounds → is_round r ≡ true
unfolding is_round
round_in r l h = and_both (le-leb 1 r l) (le-leb r rounds h)

pub round_range : (r : ℕ) → is_round r ≡ true → (1 ≤ r) × (r ≤ rounds)
unfolding is_round
round_range r e = (leb-true _ _ (and_left (leb 1 r) _ e), leb-true _ _ (and_right (leb 1 r) _ e))

round_below : (r : ℕ) → r < 1 → is_round r ≡ false
unfolding is_round
round_below r h = and_fails_left _ (lt-leb 1 r h)

-- the ids are the numbers from `slots` on that are below `id_limit`
pub id_low : (x : ℕ) → x < slots → is_round (id_round x) ≡ false
id_low x h = round_below (id_round x) (omega arith)

pub id_test : (x : ℕ) → slots ≤ x → ltb x id_limit ≡ is_round (id_round x)
id_test x h = bool_ext
    (λ e. round_in (id_round x) (omega arith) (omega (arith, ltb-true x id_limit e)))
    (λ e. lt-ltb x id_limit (omega (arith, (round_range (id_round x) e).1)))

-- the round and the member of an id, which is theirs
pub id_round_lem : (r p : ℕ) → p < slots → id_round (id_of r p) ≡ r
id_round_lem r p l = omega arith

pub id_member_lem : (r p : ℕ) → p < slots → id_member (id_of r p) ≡ p
id_member_lem r p l = omega arith

pub id_same : (y : ℕ) → id_of (id_round y) (id_member y) ≡ y
id_same y = omega arith
