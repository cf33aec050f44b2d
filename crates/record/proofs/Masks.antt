-- Laws of masks of members, with `|`, `&`, `1 << p` and `count_ones`. Assumes nothing.
use mathlib.Core.Path.{◌≡◌, refl, sym, ap, ap₂, ◌∙◌}
use mathlib.Core.Bool.{Bool, true, false, cond, not, ◌&&◌, ◌||◌, true≢false, or-false, and-true}
use mathlib.Core.Logic.{◌⊎◌, inl, inr, ⊎_elim}
use Prim.Native.Nat.{ℕ, zero, suc, ◌+◌, ◌-◌, ◌*◌, ◌/◌, ◌%◌, ◌^◌, ◌≤◌, ◌<◌}
use native.Mathlib.Nat.{pow-suc, mul_comm, one-mul, lt_of_lt_of_le, mod-lt, mod-le, zero-mod, zero-div, div-eq_of_lt, div-div-eq-div-mul}
use native.Mathlib.Nat.{div-add-mod, mul-suc, mul-le-mul_left}
use native.Mathlib.Omega.{arith}
use lib.Arith.{lt-one}
use lib.Bits.{bit_or, bit_and, bit_xor, xor_shr, xor_mod, xor_lt, or_shr, or_mod, or_lt, or_add_and, and_le_l, and_le_r, and_shr, and_mod}
use lib.Count.{ones, ones_step}
use lib.Dec.{eqb, leb, ltb, eqb-zero-suc, eqb-suc-zero, eqb-suc-suc, lit<}
use lib.Pow.{pow_mono, pow-lt, pow_pos, shl_exact}
use borrow.Author.Tests.{leb-true, leb-false, le-leb, lt-ltb, le-ltb, ltb-true, ltb-false, eqb-true, eq-eqb, ne_eqb}
use Rattle.record.specs.Below.{count}
use Rattle.record.specs.Members.{legal, faulty, quorum, leader_at, leader, has, add, remove, within, meets, rounds, slots}
use Rattle.record.specs.Terms.{largest_mask}
use Rattle.record.proofs.Booleans.{which, and_left, and_right, and_both, and_fails_right, or_right, bool_ext, cond_true, cond_false}
use Rattle.record.proofs.Below.{count_cong, count_low}

-- ---- the group

-- what a legal member count is
pub record Legal (n : ℕ) : Type 0 where
  pub low : 4 ≤ n
  pub high : n ≤ slots
  pub thirds : n ≡ 3 * faulty n + 1

pub legal_range : (n : ℕ) → legal n ≡ true → Legal n
unfolding legal
legal_range n e =
    let r : (leb n slots && eqb (n % 3) 1) ≡ true = and_right (leb 4 n) _ e in
    let m : n % 3 ≡ 1 = eqb-true _ _ (and_right (leb n slots) _ r) in
    record { low = leb-true 4 n (and_left (leb 4 n) _ e); high = leb-true n slots (and_left _ _ r); thirds = omega arith }

pub leader_at_lt : (n r i : ℕ) → 0 < n → leader_at n r i < n
unfolding leader_at
leader_at_lt n r i l = mod-lt (r - 1 + i) l

pub leader_lt : (n r : ℕ) → 0 < n → leader n r < n
leader_lt n r l = leader_at_lt n r 0 l

-- the main leader by its round alone
pub leader_main : (n r : ℕ) → (r - 1) % n ≡ leader n r
unfolding leader_at
leader_main n r = ap (λ (x : ℕ). x % n) (omega arith)

-- a leader of the 32 rounds is a bit of a word
pub leader_small : (n r : ℕ) → r ≤ rounds → leader n r < 32
unfolding leader_at
leader_small n r l = omega (arith, mod-le (r - 1 + 0) n)

-- before round 1 there is no leader, and member 0 stands for it
pub leader_none : (n r : ℕ) → r ≡ 1 → leader n (r - 1) ≡ 0
unfolding leader_at
leader_none n r e = rw e (zero-mod n)

-- the leaders of a round differ, where there are no more of them than members
pub leaders_apart : (n r i j : ℕ) → i < n → j < n → leader_at n r i ≡ leader_at n r j → i ≡ j
unfolding leader_at
leaders_apart n r i j a b e = omega (arith, none i j a b e, none j i b a (sym e))
  where
    none : (i j : ℕ) → i < n → j < n → (r - 1 + i) % n ≡ (r - 1 + j) % n → j ≤ i
    none i j a b e = go (which (leb ((r - 1 + j) / n) ((r - 1 + i) / n)))
      where
        go : (leb ((r - 1 + j) / n) ((r - 1 + i) / n) ≡ true) ⊎ (leb ((r - 1 + j) / n) ((r - 1 + i) / n) ≡ false) → j ≤ i
        go (inl d) =
            let k : (r - 1 + j) / n ≤ (r - 1 + i) / n = leb-true _ _ d in
            omega (arith, div-add-mod (r - 1 + i) n, div-add-mod (r - 1 + j) n, mul-le-mul_left n k, e)
        go (inr d) =
            let k : suc ((r - 1 + i) / n) ≤ (r - 1 + j) / n = leb-false _ _ d in
            absurd (omega (arith, div-add-mod (r - 1 + i) n, div-add-mod (r - 1 + j) n, mul-le-mul_left n k, mul-suc n ((r - 1 + i) / n), e))

-- ---- one member

-- `1 << p` in 32 bits
pub shl_one : (p : ℕ) → p < 32 → 1 * 2 ^ p % 2 ^ 32 ≡ 2 ^ p
shl_one p h = shl_exact 1 p 32 (lit< tt) (omega arith) ∙ one-mul (2 ^ p)

pub has_test : (m p : ℕ) → eqb (m / 2 ^ p % 2) 1 ≡ has m p
unfolding has
has_test m p = refl

-- nobody is in the empty mask
pub has_zero : (p : ℕ) → has 0 p ≡ false
unfolding has
has_zero p = ap (λ (x : ℕ). eqb (x % 2) 1) (zero-div (2 ^ p))

-- a mask below 2 ^ k has no member from k on
pub has_bound : (k m p : ℕ) → m < 2 ^ k → has m p ≡ true → p < k
unfolding has
has_bound k m p l e = ⊎_elim (λ h. leb-true _ _ h) (λ h. absurd (true≢false (sym e ∙ none (leb-false (suc p) k h)))) (which (leb (suc p) k))
  where
    none : k < suc p → eqb (m / 2 ^ p % 2) 1 ≡ false
    none h = ap (λ (y : ℕ). eqb (y % 2) 1) (div-eq_of_lt {n = m} {m = 2 ^ p} (omega (arith, pow_mono {i = k} {j = p} (omega arith))))

bit_digit : (d : ℕ) → d < 2 → cond (eqb d 1) 1 0 ≡ d
bit_digit zero h = refl
bit_digit (suc zero) h = refl
bit_digit (suc (suc d)) h = absurd (omega arith)

has_low : (m : ℕ) → cond (has m 0) 1 0 ≡ m % 2
unfolding has
has_low m = bit_digit (m / 1 % 2) (omega arith) ∙ omega arith

has_suc : (m p : ℕ) → has m (suc p) ≡ has (m / 2) p
unfolding has
has_suc m p = ap (λ (x : ℕ). eqb (x % 2) 1) (ap (λ (x : ℕ). m / x) (pow-suc 2 p ∙ mul_comm (2 ^ p) 2) ∙ sym (div-div-eq-div-mul m 2 (2 ^ p)))

-- the mask of member q alone
pub has_one : (q p : ℕ) → has (2 ^ q) p ≡ eqb q p
unfolding has
has_one zero zero = refl
has_one zero (suc p) = has_suc 1 p ∙ has_zero p ∙ sym (eqb-zero-suc p)
has_one (suc q) zero = ap (λ (x : ℕ). eqb x 1) even ∙ sym (eqb-suc-zero q)
  where
    even : 2 ^ suc q / 1 % 2 ≡ 0
    even = omega arith
has_one (suc q) (suc p) = has_suc (2 ^ suc q) p ∙ ap (λ (x : ℕ). has x p) half ∙ has_one q p ∙ sym (eqb-suc-suc q p)
  where
    half : 2 ^ suc q / 2 ≡ 2 ^ q
    half = omega arith

-- ---- union and meeting

or_digit : (x y : ℕ) → x < 2 → y < 2 → eqb (bit_or x y) 1 ≡ (eqb x 1 || eqb y 1)
or_digit zero zero p q = refl
or_digit zero (suc zero) p q = refl
or_digit (suc zero) zero p q = refl
or_digit (suc zero) (suc zero) p q = refl
or_digit zero (suc (suc y)) p q = absurd (omega arith)
or_digit (suc zero) (suc (suc y)) p q = absurd (omega arith)
or_digit (suc (suc x)) y p q = absurd (omega arith)

and_digit : (x y : ℕ) → x < 2 → y < 2 → eqb (bit_and x y) 1 ≡ (eqb x 1 && eqb y 1)
and_digit zero zero p q = refl
and_digit zero (suc zero) p q = refl
and_digit (suc zero) zero p q = refl
and_digit (suc zero) (suc zero) p q = refl
and_digit zero (suc (suc y)) p q = absurd (omega arith)
and_digit (suc zero) (suc (suc y)) p q = absurd (omega arith)
and_digit (suc (suc x)) y p q = absurd (omega arith)

pub has_or : (a b p : ℕ) → has (bit_or a b) p ≡ (has a p || has b p)
unfolding has
has_or a b p =
    ap (λ (x : ℕ). eqb (x % 2) 1) (or_shr a b p) ∙ ap (λ (x : ℕ). eqb x 1) (or_mod (a / 2 ^ p) (b / 2 ^ p) 1)
    ∙ or_digit (a / 2 ^ p % 2) (b / 2 ^ p % 2) (omega arith) (omega arith)

pub has_and : (a b p : ℕ) → has (bit_and a b) p ≡ (has a p && has b p)
unfolding has
has_and a b p =
    ap (λ (x : ℕ). eqb (x % 2) 1) (and_shr a b p) ∙ ap (λ (x : ℕ). eqb x 1) (and_mod (a / 2 ^ p) (b / 2 ^ p) 1)
    ∙ and_digit (a / 2 ^ p % 2) (b / 2 ^ p % 2) (omega arith) (omega arith)

-- the added member, and the others
pub has_add : (m q p : ℕ) → has (add m q) p ≡ (has m p || eqb q p)
has_add m q p = has_or m (2 ^ q) p ∙ ap (λ (b : Bool). has m p || b) (has_one q p)

pub has_add_same : (m p : ℕ) → has (add m p) p ≡ true
has_add_same m p = has_add m p p ∙ or_right (has m p) (eq-eqb p p refl)

pub has_add_other : (m q p : ℕ) → (q ≡ p → ⊥) → has (add m q) p ≡ has m p
has_add_other m q p h = has_add m q p ∙ rw (ne_eqb q p h) (or-false (has m p))

-- the added mask stays below 2 ^ k
pub add_lt : (k m p : ℕ) → m < 2 ^ k → p < k → add m p < 2 ^ k
add_lt k m p l h = or_lt k m (2 ^ p) l (pow-lt h)

-- the bits of one mask that are not those of the other
xor_digit : (x y : ℕ) → x < 2 → y < 2 → eqb (bit_xor x y) 1 ≡ cond (eqb y 1) (not (eqb x 1)) (eqb x 1)
xor_digit zero zero p q = refl
xor_digit zero (suc zero) p q = refl
xor_digit (suc zero) zero p q = refl
xor_digit (suc zero) (suc zero) p q = refl
xor_digit zero (suc (suc y)) p q = absurd (omega arith)
xor_digit (suc zero) (suc (suc y)) p q = absurd (omega arith)
xor_digit (suc (suc x)) y p q = absurd (omega arith)

has_xor : (a b p : ℕ) → has (bit_xor a b) p ≡ cond (has b p) (not (has a p)) (has a p)
unfolding has
has_xor a b p =
    ap (λ (x : ℕ). eqb (x % 2) 1) (xor_shr a b p) ∙ ap (λ (x : ℕ). eqb x 1) (xor_mod (a / 2 ^ p) (b / 2 ^ p) 1)
    ∙ xor_digit (a / 2 ^ p % 2) (b / 2 ^ p % 2) (omega arith) (omega arith)

-- the member taken out, and the others
pub has_remove : (m q p : ℕ) → has (remove m q) p ≡ (has m p && not (eqb q p))
has_remove m q p =
    has_xor m (bit_and m (2 ^ q)) p
    ∙ ap (λ (b : Bool). cond b (not (has m p)) (has m p)) (has_and m (2 ^ q) p ∙ ap (λ (b : Bool). has m p && b) (has_one q p))
    ∙ table (has m p) (eqb q p)
  where
    table : (a b : Bool) → cond (a && b) (not a) a ≡ (a && not b)
    table true true = refl
    table true false = refl
    table false true = refl
    table false false = refl

pub has_remove_same : (m p : ℕ) → has (remove m p) p ≡ false
has_remove_same m p = has_remove m p p ∙ and_fails_right (has m p) (ap not (eq-eqb p p refl))

pub has_remove_other : (m q p : ℕ) → (q ≡ p → ⊥) → has (remove m q) p ≡ has m p
has_remove_other m q p h = has_remove m q p ∙ rw (ne_eqb q p h) (and-true (has m p))

-- who is left was in
pub has_removed : (m q p : ℕ) → has (remove m q) p ≡ true → has m p ≡ true
has_removed m q p e = and_left (has m p) _ (sym (has_remove m q p) ∙ e)

-- the mask stays below 2 ^ k
pub remove_lt : (k m p : ℕ) → m < 2 ^ k → remove m p < 2 ^ k
remove_lt k m p l = xor_lt k m (bit_and m (2 ^ p)) l (omega (arith, and_le_l m (2 ^ p)))

-- masks of k members with the same members are the same
pub mask_ext : (k a b : ℕ) → a < 2 ^ k → b < 2 ^ k → ((p : ℕ) → p < k → has a p ≡ has b p) → a ≡ b
mask_ext zero a b la lb h = lt-one la ∙ sym (lt-one lb)
mask_ext (suc k) a b la lb h =
    let low : a % 2 ≡ b % 2 = sym (has_low a) ∙ ap (λ (t : Bool). cond t 1 0) (h 0 (omega arith)) ∙ has_low b in
    let high : a / 2 ≡ b / 2 = mask_ext k (a / 2) (b / 2) (omega arith) (omega arith) (λ p l. sym (has_suc a p) ∙ h (suc p) (omega arith)
    ∙ has_suc b p) in
    omega arith

-- ---- counting

pub ones_zero : ones 0 ≡ 0
unfolding ones
ones_zero = refl

-- The count of a mask is the number of members that it has.
pub ones_count : (k m : ℕ) → m < 2 ^ k → ones m ≡ count k (has m)
unfolding count
ones_count zero m h = ap ones (lt-one h) ∙ ones_zero
ones_count (suc k) m h =
    ones_step m
    ∙ ap₂ ◌+◌ (sym (has_low m)) (ones_count k (m / 2) (omega arith) ∙ count_cong k (has (m / 2)) (λ i. has m (suc i)) (λ i l. sym (has_suc m i)))
    ∙ sym (count_low k (has m))

-- a mask below 2 ^ n that meets the quorum has so many members
pub meets_count : (n m : ℕ) → m < 2 ^ n → meets n m ≡ leb (quorum n) (count n (has m))
unfolding meets
meets_count n m l = ap (leb (quorum n)) (ones_count n m l)

pub within_lt : (n m : ℕ) → within n m ≡ true → m < 2 ^ n
unfolding within
within_lt n m e = ltb-true m (2 ^ n) e

pub lt_within : (n m : ℕ) → m < 2 ^ n → within n m ≡ true
unfolding within
lt_within n m l = lt-ltb m (2 ^ n) l

-- two words joined are 0 exactly if both are
pub or_zero : (a b : ℕ) → eqb (bit_or a b) 0 ≡ (eqb a 0 && eqb b 0)
or_zero a b =
    bool_ext
    (λ e. let z : bit_or a b ≡ 0 = eqb-true (bit_or a b) 0 e in
    and_both (eq-eqb a 0 (omega (arith, or_add_and a b, and_le_r a b))) (eq-eqb b 0 (omega (arith, or_add_and a b, and_le_l a b))))
    (λ e. let p : a ≡ 0 = eqb-true a 0 (and_left _ _ e) in
    let q : b ≡ 0 = eqb-true b 0 (and_right (eqb a 0) _ e) in
    eq-eqb (bit_or a b) 0 (omega (arith, or_add_and a b)))

-- joined masks are within n members exactly if each is
pub within_or : (n a b : ℕ) → within n (bit_or a b) ≡ (within n a && within n b)
within_or n a b =
    bool_ext
    (λ e. let l : bit_or a b < 2 ^ n = within_lt n (bit_or a b) e in
    and_both (lt_within n a (omega (arith, or_add_and a b, and_le_r a b))) (lt_within n b (omega (arith, or_add_and a b, and_le_l a b))))
    (λ e. lt_within n (bit_or a b) (or_lt n a b (within_lt n a (and_left _ _ e)) (within_lt n b (and_right (within n a) _ e))))

pub within_three : (n a b c : ℕ) → within n (bit_or a (bit_or b c)) ≡ (within n a && (within n b && within n c))
within_three n a b c = within_or n a (bit_or b c) ∙ ap (λ (x : Bool). within n a && x) (within_or n b c)

-- the largest mask of few members, and of so many that every word is one
pub largest_few : (n : ℕ) → n < 32 → largest_mask n ≡ 2 ^ n - 1
unfolding largest_mask
largest_few n l = cond_true _ _ (lt-ltb n 32 l)

pub largest_wide : (n : ℕ) → 32 ≤ n → largest_mask n ≡ 2 ^ 32 - 1
unfolding largest_mask
largest_wide n l = cond_false _ _ (le-ltb n 32 l)

-- the test of a program: a word is a mask of n members exactly if the largest is not below it
pub within_largest : (n m : ℕ) → m < 2 ^ 32 → leb m (largest_mask n) ≡ within n m
unfolding within
within_largest n m h = ⊎_elim (λ e. few (ltb-true n 32 e)) (λ e. wide (ltb-false n 32 e)) (which (ltb n 32))
  where
    few : n < 32 → leb m (largest_mask n) ≡ within n m
    few l =
        rw (largest_few n l)
        (bool_ext
        (λ e. lt-ltb m (2 ^ n) (omega (arith, leb-true m (2 ^ n - 1) e, pow_pos n)))
        (λ e. le-leb m (2 ^ n - 1) (omega (arith, ltb-true m (2 ^ n) e))))

    wide : 32 ≤ n → leb m (largest_mask n) ≡ within n m
    wide l =
        rw (largest_wide n l)
        (le-leb m (2 ^ 32 - 1) (omega (arith, h)) ∙ sym (lt-ltb m (2 ^ n) (lt_of_lt_of_le h (pow_mono {i = 32} {j = n} l))))
