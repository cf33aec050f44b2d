-- How many leaders a round has: what the crates above may know of it. Assumes nothing.
use mathlib.Core.Path.{◌≡◌, refl}
use mathlib.Core.List.{List}
use Prim.Native.Nat.{ℕ, ◌*◌, ◌≤◌}
use native.Mathlib.Omega.{arith}
use Rattle.record.specs.Members.{rounds, most_leaders}
use Rattle.replica.specs.Layout.{leaders_size}
use Rattle.replica.specs.State.{width}

pub width_some : (l : List ℕ) → 1 ≤ width l
unfolding width
width_some l = omega arith

pub width_most : (l : List ℕ) → width l ≤ most_leaders
unfolding width
width_most l = omega arith

-- the leader list has room for the leaders of all rounds
pub width_room : (l : List ℕ) → width l * rounds ≤ leaders_size
unfolding width
width_room l = omega arith

-- it is the same of all states, and 1
pub width_same : (l m : List ℕ) → width m ≡ width l
unfolding width
width_same l m = refl

pub width_one : (l : List ℕ) → width l ≡ 1
unfolding width
width_one l = refl
