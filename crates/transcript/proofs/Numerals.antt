-- Laws of numerals. Assumes nothing.
use Rattle.std.specs.Prelude.{Some, None}
use mathlib.Core.Path.{◌≡◌, refl, sym, ap, ◌∙◌}
use mathlib.Core.Bool.{Bool, true, false, not}
use mathlib.Core.List.{List, [], ◌∷◌}
use Prim.Native.Nat.{ℕ, ◌+◌, ◌-◌, ◌*◌, ◌≤◌, ◌<◌}
use native.Mathlib.Numerals.{add-one}
use native.Mathlib.Omega.{arith}
use lib.Dec.{eqb, leb}
use lib.ListN.{length, get_or, drop, drop_of_length-le}
use lib.Seq.{drop-cons}
use borrow.Author.Tests.{le-leb, lt-leb, leb-true}
use Rattle.transcript.specs.Grammar.{is_digit, all_digits, value_from, value_of, led_ok, numeral_ok, numeral_value, largest, zero_digit}
use Rattle.record.proofs.Booleans.{and_left, and_right, and_both, and_fails_left, and_fails_right, cond_true, cond_false, passed, failed}

-- ---- the start of a numeral

pub led_none : (s : List ℕ) → length s ≡ 0 → false ≡ led_ok s
unfolding led_ok
led_none [] e = refl
led_none (b ∷ s) e = absurd (omega arith)

pub led_one : (s : List ℕ) → length s ≡ 1 → true ≡ led_ok s
unfolding led_ok
led_one [] e = absurd (omega arith)
led_one (b ∷ []) e = refl
led_one (b ∷ (d ∷ s)) e = absurd (omega arith)

pub led_more : (s : List ℕ) → (length s ≡ 0 → ⊥) → (length s ≡ 1 → ⊥) → not (eqb (get_or s 0 0) zero_digit) ≡ led_ok s
unfolding led_ok
led_more [] p q = absurd (p refl)
led_more (b ∷ []) p q = absurd (q refl)
led_more (b ∷ (d ∷ s)) p q = refl

pub digit_low : (b : ℕ) → is_digit b ≡ true → zero_digit ≤ b
unfolding is_digit
digit_low b e = leb-true zero_digit b (and_left (leb zero_digit b) _ e)

digit_high : (b : ℕ) → is_digit b ≡ true → b ≤ (zero_digit + 9)
unfolding is_digit
digit_high b e = leb-true b (zero_digit + 9) (and_right (leb zero_digit b) _ e)

-- ---- the byte at index i, and those after it

module _ (s : List ℕ) (i : ℕ) (l : i < length s) where
  pub split : drop i s ≡ get_or s i 0 ∷ drop (i + 1) s
  split = rw (add-one i) (drop-cons s i 0 l)

  digits_next : is_digit (get_or s i 0) ≡ true → all_digits (drop i s) ≡ all_digits (drop (i + 1) s)
  unfolding all_digits
  digits_next e = ap all_digits split ∙ rw e refl

  digits_stop : is_digit (get_or s i 0) ≡ false → all_digits (drop i s) ≡ false
  unfolding all_digits
  digits_stop e = ap all_digits split ∙ rw e refl

  value_next : (v : ℕ) → value_from v (drop i s) ≡ value_from (v * 10 + (get_or s i 0 - zero_digit)) (drop (i + 1) s)
  unfolding value_from
  value_next v = ap (value_from v) split

-- more digits make no smaller value
pub value_grows : (s : List ℕ) (v : ℕ) → v ≤ value_from v s
unfolding value_from
value_grows [] v = omega arith
value_grows (b ∷ s) v = omega (arith, value_grows s (v * 10 + (b - zero_digit)))

-- ---- what `numeral` answers

no_numeral : (s : List ℕ) → numeral_ok s ≡ false → None ≡ numeral_value s
unfolding numeral_value
no_numeral s e = sym (cond_false (Some (value_of s)) None e)

pub not_led : (s : List ℕ) (t : Bool) → t ≡ led_ok s → not t ≡ true → None ≡ numeral_value s
unfolding numeral_ok
not_led s t e h = no_numeral s (and_fails_left _ (failed e h))

not_digits : (s : List ℕ) → all_digits s ≡ false → None ≡ numeral_value s
unfolding numeral_ok
not_digits s e = no_numeral s (and_fails_right (led_ok s) (and_fails_left _ e))

too_large : (s : List ℕ) → largest < value_of s → None ≡ numeral_value s
unfolding numeral_ok
too_large s h = no_numeral s (and_fails_right (led_ok s) (and_fails_right (all_digits s) (lt-leb _ _ h)))

pub a_numeral : (s : List ℕ) → led_ok s ≡ true → all_digits s ≡ true → value_of s ≤ largest → Some (value_of s) ≡ numeral_value s
unfolding numeral_value numeral_ok
a_numeral s p q h = sym (cond_true (Some (value_of s)) None (and_both p (and_both q (le-leb _ _ h))))

-- ---- the loop of `numeral`: i digits are read, of that value

-- its invariant
pub record Counting (s : List ℕ) (value i : ℕ) : Type 0 where
  pub small : value ≤ largest
  pub digits : all_digits s ≡ all_digits (drop i s)
  pub valued : value_of s ≡ value_from value (drop i s)

-- what is known of a byte that is a digit; v is the value with that digit
pub record DigitRead (s : List ℕ) (value i : ℕ) : Type 0 where
  pub low : zero_digit ≤ get_or s i 0
  pub high : get_or s i 0 ≤ (zero_digit + 9)
  pub over : (v : ℕ) → v ≡ value * 10 + (get_or s i 0 - zero_digit) → largest < v → None ≡ numeral_value s
  pub next : (v : ℕ) → v ≡ value * 10 + (get_or s i 0 - zero_digit) → v ≤ largest → Counting s v (i + 1)

module _ (s : List ℕ) (value i : ℕ) (c : Counting s value i) where
  pub no_digit : i < length s → (t : Bool) → t ≡ is_digit (get_or s i 0) → not t ≡ true → None ≡ numeral_value s
  no_digit l t e h = not_digits s (c.digits ∙ digits_stop s i l (failed e h))

  pub digit_read : i < length s → (t : Bool) → t ≡ is_digit (get_or s i 0) → not t ≡ false → DigitRead s value i
  digit_read l t e h = record {
    low = digit_low _ (passed e h);
    high = digit_high _ (passed e h);
    over = λ v d k. too_large s (omega (arith, value_turn v d, value_grows (drop (i + 1) s) v));
    next = λ v d k. record { small = k; digits = c.digits ∙ digits_next s i l (passed e h); valued = value_turn v d };
  }
    where
      value_turn : (v : ℕ) → v ≡ value * 10 + (get_or s i 0 - zero_digit) → value_of s ≡ value_from v (drop (i + 1) s)
      value_turn v d = c.valued ∙ value_next s i l value ∙ rw d

  pub counted : length s ≤ i → (t : Bool) → t ≡ led_ok s → not t ≡ false → Some value ≡ numeral_value s
  unfolding value_from all_digits
  counted l t e h =
      let none = drop_of_length-le s l in
      let v : value_of s ≡ value = c.valued ∙ ap (value_from value) none in
      ap Some (sym v) ∙ a_numeral s (passed e h) (c.digits ∙ ap all_digits none) (rw v c.small)
