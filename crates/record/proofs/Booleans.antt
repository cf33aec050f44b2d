-- Laws of tests. Assumes nothing.
use mathlib.Core.Path.{◌≡◌, refl, sym, ap₂, ◌∙◌}
use mathlib.Core.Bool.{Bool, true, false, cond, not, ◌&&◌, ◌||◌, true≢false, false≢true}
use mathlib.Core.Logic.{◌⊎◌, inl, inr}
use borrow.Author.Tests.{not-true, not-false}

-- a test is true or false
pub which : (b : Bool) → (b ≡ true) ⊎ (b ≡ false)
which true = inl refl
which false = inr refl

-- no test is both
pub never : {A : Type 0} {b : Bool} → b ≡ true → b ≡ false → A
never p q = absurd (true≢false (sym p ∙ q))

pub and_left : (a b : Bool) → (a && b) ≡ true → a ≡ true
and_left true b e = refl
and_left false b e = e

pub and_right : (a b : Bool) → (a && b) ≡ true → b ≡ true
and_right true b e = e
and_right false b e = absurd (false≢true e)

pub and_both : {a b : Bool} → a ≡ true → b ≡ true → (a && b) ≡ true
and_both p q = ap₂ ◌&&◌ p q

-- a conjunction fails where one part does
pub and_fails_left : {a : Bool} (b : Bool) → a ≡ false → (a && b) ≡ false
and_fails_left b e = rw e

pub and_fails_right : (a : Bool) {b : Bool} → b ≡ false → (a && b) ≡ false
and_fails_right true e = e
and_fails_right false e = refl

-- the second tests need agree only where the first ones pass
pub and_cong : {a b x y : Bool} → a ≡ b → (a ≡ true → x ≡ y) → (a && x) ≡ (b && y)
and_cong {a = true} {b = true} p h = h refl
and_cong {a = true} {b = false} p h = absurd (true≢false p)
and_cong {a = false} {b = true} p h = absurd (false≢true p)
and_cong {a = false} {b = false} p h = refl

pub or_cases : (a b : Bool) → (a || b) ≡ true → (a ≡ true) ⊎ (b ≡ true)
or_cases true b e = inl refl
or_cases false b e = inr e

pub or_left : {a : Bool} (b : Bool) → a ≡ true → (a || b) ≡ true
or_left b e = rw e

pub or_right : (a : Bool) {b : Bool} → b ≡ true → (a || b) ≡ true
or_right true e = refl
or_right false e = e

pub or_neither : (a b : Bool) → (a || b) ≡ false → (a ≡ false) × (b ≡ false)
or_neither true b e = absurd (true≢false e)
or_neither false b e = (refl, e)

-- two tests that pass together are the same
pub bool_ext : {a b : Bool} → (a ≡ true → b ≡ true) → (b ≡ true → a ≡ true) → a ≡ b
bool_ext {a = true} {b} p q = sym (p refl)
bool_ext {a = false} {b = true} p q = q refl
bool_ext {a = false} {b = false} p q = refl

-- a choice whose test is known
pub cond_true : {A : Type 0} {b : Bool} (x y : A) → b ≡ true → cond b x y ≡ x
cond_true x y e = rw e

pub cond_false : {A : Type 0} {b : Bool} (x y : A) → b ≡ false → cond b x y ≡ y
cond_false x y e = rw e

-- two tests that agree choose alike, if the first choices agree where the tests pass
pub cond_cong : {A : Type 0} {a b : Bool} {x y z w : A} → a ≡ b → (a ≡ true → x ≡ y) → z ≡ w → cond a x z ≡ cond b y w
cond_cong {a = true} {b = true} p h k = h refl
cond_cong {a = true} {b = false} p h k = absurd (true≢false p)
cond_cong {a = false} {b = true} p h k = absurd (false≢true p)
cond_cong {a = false} {b = false} p h k = k

-- after `if !f(..) { return ..; }`: what the contract of f equates its result b with
pub passed : {b t : Bool} → b ≡ t → not b ≡ false → t ≡ true
passed {b} e h = sym e ∙ not-false b h

pub failed : {b t : Bool} → b ≡ t → not b ≡ true → t ≡ false
failed {b} e h = sym e ∙ not-true b h

-- the second test is met where the first is
abbrev pub imp : Bool → Bool → Bool
imp a b = not a || b

pub imp_elim : (a b : Bool) → imp a b ≡ true → a ≡ true → b ≡ true
imp_elim true b e h = e
imp_elim false b e h = never h refl
