-- Terms of the claims. Assumes nothing.
use Rattle.std.specs.Prelude.{Option, Some, None, option_and_then}
use mathlib.Core.Path.{◌≡◌, refl, sym, ap, ◌∙◌}
use mathlib.Core.Bool.{true, false, not}
use mathlib.Core.Logic.{◌⊎◌, inl, inr, ⊎_elim}
use mathlib.Core.List.{List, [], ◌∷◌, ◌++◌}
use Prim.Native.Nat.{ℕ, zero, suc, ◌+◌, ◌-◌, ◌*◌, ◌/◌, ◌%◌, ◌≤◌, ◌<◌}
use native.Mathlib.Omega.{arith}
use lib.Dec.{eqb, leb}
use lib.ListN.{length, length-append, length-drop, get_or, take, get_or-append}
use lib.Seq.{take_all, length-take-le}
use borrow.Author.Tests.{eqb-true, eqb-false, ne_eqb, le-leb, leb-true, leb-false, not-true}
use Rattle.record.specs.Layout.{record_size}
use Rattle.transcript.specs.Grammar.{is_digit, all_digits, value_from, value_of, led_ok, numeral_ok}
use Rattle.transcript.specs.Grammar.{numeral_value, largest, first_word, after_word, words_ok, scanned}
use Rattle.transcript.specs.Commands.{word_count, kind_of, command_from, command_of}
use Rattle.transcript.specs.Text.{item_size, digits_from, decimal, items}
use Rattle.transcript.specs.Claims.{AnswerSize, ReadBack, LongLines, KeptLines}
use Rattle.transcript.specs.declared.command.Kind.{Kind}
use Rattle.record.proofs.Booleans.{which, and_left, and_right, and_both}
use Rattle.transcript.specs.Grammar.{space, zero_digit}
use Rattle.transcript.proofs.Numerals.{digit_low, value_grows, a_numeral}
use Rattle.transcript.proofs.Words.{few_words}
use Rattle.transcript.proofs.Digits.{digits_done, digits_next, decimal_more, decimal_few, items_few}

-- ---- v with k zeros after it

tens : ℕ → ℕ → ℕ
tens zero v = v
tens (suc k) v = tens k (v * 10)

tens_mono : (k v w : ℕ) → v ≤ w → tens k v ≤ tens k w
unfolding tens
tens_mono zero v w h = h
tens_mono (suc k) v w h = tens_mono k (v * 10) (w * 10) (omega arith)

tens_ten : (k v : ℕ) → tens k (v * 10) ≡ tens k v * 10
unfolding tens
tens_ten zero v = refl
tens_ten (suc k) v = tens_ten k (v * 10)

-- digits after those of value v put as many zeros after it at least
value_long : (k : ℕ) (s : List ℕ) (v : ℕ) → k ≤ length s → tens k v ≤ value_from v s
unfolding value_from tens
value_long zero s v l = value_grows s v
value_long (suc k) [] v l = absurd (omega arith)
value_long (suc k) (b ∷ s) v l =
    omega (arith, tens_mono k (v * 10) (v * 10 + (b - zero_digit)) (omega arith), value_long k s (v * 10 + (b - zero_digit)) (omega arith))

-- ---- a numeral has ten digits at most

led_digit : (b d : ℕ) (s : List ℕ) → led_ok (b ∷ (d ∷ s)) ≡ true → is_digit b ≡ true → 1 ≤ b - zero_digit
unfolding led_ok
led_digit b d s p q = let n = eqb-false b zero_digit (not-true (eqb b zero_digit) p) in let l = digit_low b q in omega arith

numeral_few : (s : List ℕ) → numeral_ok s ≡ true → length s ≤ 10
unfolding numeral_ok all_digits value_from tens
numeral_few [] e = omega arith
numeral_few (b ∷ []) e = omega arith
numeral_few (b ∷ (d ∷ s)) e =
    let rest = and_right (led_ok (b ∷ (d ∷ s))) _ e in
    let digit = and_left (is_digit b) _ (and_left (all_digits (b ∷ (d ∷ s))) _ rest) in
    let first : 1 ≤ b - zero_digit = led_digit b d s (and_left (led_ok (b ∷ (d ∷ s))) _ e) digit in
    let small : value_from (0 * 10 + (b - zero_digit)) (d ∷ s) ≤ largest = leb-true _ largest (and_right (all_digits (b ∷ (d ∷ s))) _ rest) in
    ⊎_elim (λ (h : leb (length (b ∷ (d ∷ s))) 10 ≡ true). leb-true _ 10 h)
    (λ h.
    let l : 10 < length (b ∷ (d ∷ s)) = leb-false _ 10 h in
    absurd (omega (arith, tens_mono 10 1 (0 * 10 + (b - zero_digit)) (omega arith), value_long 10 (d ∷ s) (0 * 10 + (b - zero_digit)) (omega arith))))
    (which (leb (length (b ∷ (d ∷ s))) 10))

-- ---- a line of the form has at most 11 bytes a word after its letter

words_few : (k : ℕ) (s : List ℕ) → words_ok k s ≡ true → length s ≤ item_size * k
unfolding words_ok
words_few zero s e = omega (arith, eqb-true (length s) 0 e)
words_few (suc k) s e =
    let rest = and_right (eqb (get_or s 0 0) space) _ e in
    let few = numeral_few (first_word s) (and_left (numeral_ok (first_word s)) _ rest) in
    omega (arith, words_few k (after_word s) (and_right (numeral_ok (first_word s)) _ rest), length-drop (1 + length (first_word s)) s)

long_other : (kind : Kind) (s : List ℕ) → item_size * record_size < length s → command_from kind s ≡ None
unfolding scanned
long_other kind s l =
    ⊎_elim (λ (h : words_ok (word_count kind) s ≡ true). absurd (omega (arith, words_few (word_count kind) s h, few_words kind)))
    (λ h. rw h refl)
    (which (words_ok (word_count kind) s))

pub long_lines : LongLines
long_lines [] l = refl
long_lines (letter ∷ s) l = go (kind_of letter)
  where
    go : (k : Option Kind) → option_and_then (λ (kind : Kind). command_from kind s) k ≡ None
    go None = refl
    go (Some kind) = long_other kind s (omega arith)

pub kept_lines : KeptLines
kept_lines line kept l =
    ⊎_elim (λ (h : leb (length line) kept ≡ true). ap command_of (take_all kept line (leb-true _ kept h)))
    (λ h. long_lines (take kept line)
    (omega (arith, leb-false (length line) kept h, length-take-le kept line (omega (arith, leb-false (length line) kept h))))
    ∙ sym (long_lines line (omega (arith, leb-false (length line) kept h))))
    (which (leb (length line) kept))

-- ---- answers

pub answer_size : AnswerSize
answer_size n t e =
    omega (arith, e, decimal_few n, items_few t, length-append (decimal n ++ items t) (10 ∷ []), length-append (decimal n) (items t))

-- ---- digits that are printed

digit_ok : (n : ℕ) → is_digit (zero_digit + n % 10) ≡ true
unfolding is_digit
digit_ok n = and_both (le-leb zero_digit (zero_digit + n % 10) (omega arith)) (le-leb (zero_digit + n % 10) (zero_digit + 9) (omega arith))

digits_snoc : (s : List ℕ) (b : ℕ) → all_digits s ≡ true → is_digit b ≡ true → all_digits (s ++ b ∷ []) ≡ true
unfolding all_digits
digits_snoc [] b p q = and_both q refl
digits_snoc (d ∷ s) b p q = and_both (and_left (is_digit d) _ p) (digits_snoc s b (and_right (is_digit d) _ p) q)

value_snoc : (s : List ℕ) (v b : ℕ) → value_from v (s ++ b ∷ []) ≡ value_from v s * 10 + (b - zero_digit)
unfolding value_from
value_snoc [] v b = refl
value_snoc (d ∷ s) v b = value_snoc s (v * 10 + (d - zero_digit)) b

positive : (n : ℕ) → (n ≡ 0 → ⊥) → 1 ≤ n
positive n h = omega arith

zero_back : (n : ℕ) → n ≡ 0 → numeral_value (decimal n) ≡ Some n
unfolding decimal numeral_value numeral_ok led_ok all_digits is_digit value_from
zero_back n e = rw e refl

-- ---- printed digits are read back

read_digits : (k n : ℕ) → n < tens k 1 → (all_digits (digits_from k n) ≡ true) × (value_of (digits_from k n) ≡ n)
unfolding tens digits_from all_digits value_from
read_digits zero n l = (refl, omega arith)
read_digits (suc k) n l = go (which (eqb n 0)) (read_digits k (n / 10) (omega (arith, tens_ten k 1)))
  where
    go : (eqb n 0 ≡ true) ⊎ (eqb n 0 ≡ false) → (all_digits (digits_from k (n / 10)) ≡ true) × (value_of (digits_from k (n / 10)) ≡ n / 10)
        → (all_digits (digits_from (suc k) n) ≡ true) × (value_of (digits_from (suc k) n) ≡ n)
    go (inl e) r = rw e (refl, sym (eqb-true n 0 e))
    go (inr e) r = rw e (
      digits_snoc (digits_from k (n / 10)) (zero_digit + n % 10) r.0 (digit_ok n),
      omega (arith, value_snoc (digits_from k (n / 10)) 0 (zero_digit + n % 10), r.1),
    )

-- the first of them is not 0
pub record First (s : List ℕ) : Type 0 where
  pub some : 1 ≤ length s
  pub high : zero_digit < get_or s 0 0

first_snoc : (s : List ℕ) (b : ℕ) → First s → First (s ++ b ∷ [])
first_snoc s b f = record { some = omega (arith, f.some, length-append s (b ∷ [])); high = rw (get_or-append s (b ∷ []) 0 0 f.some) f.high }

first_digits : (k n : ℕ) → n < tens k 1 → 1 ≤ n → First (digits_from k n)
unfolding tens
first_digits zero n l h = absurd (omega arith)
first_digits (suc k) n l h = rw (digits_next k (suc k) n refl (λ e. omega arith)) (go (which (eqb (n / 10) 0))
    (first_digits k (n / 10) (omega (arith, tens_ten k 1))))
  where
    go : (eqb (n / 10) 0 ≡ true) ⊎ (eqb (n / 10) 0 ≡ false) → (1 ≤ n / 10 → First (digits_from k (n / 10)))
        → First (digits_from k (n / 10) ++ (zero_digit + n % 10) ∷ [])
    go (inl e) r = rw (digits_done k (n / 10) (eqb-true (n / 10) 0 e)) (record { some = omega arith; high = omega (arith, eqb-true (n / 10) 0 e) })
    go (inr e) r = first_snoc (digits_from k (n / 10)) (zero_digit + n % 10) (r (positive (n / 10) (eqb-false (n / 10) 0 e)))

first_led : (s : List ℕ) → First s → led_ok s ≡ true
unfolding led_ok
first_led [] f = absurd (omega (arith, f.some))
first_led (b ∷ []) f = refl
first_led (b ∷ (d ∷ s)) f = ap not (ne_eqb b zero_digit (λ e. omega (arith, f.high)))

pub read_back : ReadBack
unfolding tens decimal numeral_value
read_back n l =
    ⊎_elim (λ (e : eqb n 0 ≡ true). zero_back n (eqb-true n 0 e))
    (λ e.
    let p : 1 ≤ n = positive n (eqb-false n 0 e) in
    let r = read_digits 10 n (omega arith) in
    let led = first_led (digits_from 10 n) (first_digits 10 n (omega arith) p) in
    ap numeral_value (sym (decimal_more n (eqb-false n 0 e))) ∙ sym (a_numeral (digits_from 10 n) led r.0 (omega (arith, r.1))) ∙ ap Some r.1)
    (which (eqb n 0))
