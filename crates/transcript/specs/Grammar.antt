-- Numerals and words of an input line, as lists of bytes.
use Rattle.std.specs.Prelude.{Bool, true, false, cond, not, ◌&&◌, List, [], ◌∷◌, ℕ, zero, suc, ◌+◌, ◌-◌, ◌*◌, eqb, leb, length, get_or, drop, replicate}
use Rattle.std.specs.Prelude.{Option, Some, None}
use Rattle.std.proofs.lemmas.List.Edits.{sets}
use Rattle.record.specs.Layout.{record_size}

abbrev pub space : ℕ
space = 32

-- the digit 0; digit d is zero_digit + d
abbrev pub zero_digit : ℕ
zero_digit = 48

abbrev pub largest : ℕ
largest = 4294967295

unfoldable pub is_digit : ℕ → Bool
is_digit b = leb zero_digit b && leb b (zero_digit + 9)

unfoldable pub all_digits : List ℕ → Bool
all_digits [] = true
all_digits (b ∷ s) = is_digit b && all_digits s

-- the value of digits that follow others of value v
unfoldable pub value_from : ℕ → List ℕ → ℕ
value_from v [] = v
value_from v (b ∷ s) = value_from (v * 10 + (b - zero_digit)) s

abbrev pub value_of : List ℕ → ℕ
value_of s = value_from 0 s

-- not empty, and no 0 before another digit
unfoldable pub led_ok : List ℕ → Bool
led_ok [] = false
led_ok (b ∷ []) = true
led_ok (b ∷ (c ∷ s)) = not (eqb b zero_digit)

-- a decimal numeral without leading zeros, at most 4,294,967,295
unfoldable pub numeral_ok : List ℕ → Bool
numeral_ok s = led_ok s && (all_digits s && leb (value_of s) largest)

-- a numeral's value, and none where there is no numeral
unfoldable pub numeral_value : List ℕ → Option ℕ
numeral_value s = cond (numeral_ok s) (Some (value_of s)) None

-- the bytes before the first space
unfoldable pub up_to_space : List ℕ → List ℕ
up_to_space [] = []
up_to_space (b ∷ s) = cond (eqb b space) [] (b ∷ up_to_space s)

-- s without its first byte, up to the next space; and what stands after that
abbrev pub first_word : List ℕ → List ℕ
first_word s = up_to_space (drop 1 s)

abbrev pub after_word : List ℕ → List ℕ
after_word s = drop (1 + length (first_word s)) s

-- s is k words and nothing more, each of them a space and a numeral
unfoldable pub words_ok : ℕ → List ℕ → Bool
words_ok zero s = eqb (length s) 0
words_ok (suc k) s = eqb (get_or s 0 0) space && (numeral_ok (first_word s) && words_ok k (after_word s))

-- the values of those words
unfoldable pub words_in : ℕ → List ℕ → List ℕ
words_in zero s = []
words_in (suc k) s = value_of (first_word s) ∷ words_in k (after_word s)

-- the values in the first places of an array, with 0 in the others
abbrev pub placed : List ℕ → List ℕ
placed values = sets (replicate record_size 0) 0 values

-- the array of those words, and none where s is not k words
unfoldable pub scanned : ℕ → List ℕ → Option (List ℕ)
scanned k s = cond (words_ok k s) (Some (placed (words_in k s))) None
