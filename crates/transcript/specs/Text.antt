-- Lines of output, as lists of bytes.
use Rattle.std.specs.Prelude.{◌≡◌, cond, List, [], ◌∷◌, ◌++◌, ℕ, zero, suc, ◌+◌, ◌/◌, ◌%◌, eqb, length, take}
use Rattle.transcript.specs.Grammar.{space, zero_digit}

abbrev pub line_feed : ℕ
line_feed = 10

-- a 32-bit number has ten digits at most, and with a space before them that many bytes
abbrev pub digit_count : ℕ
digit_count = 10

abbrev pub item_size : ℕ
item_size = 1 + digit_count

-- the numbers of the status
abbrev pub status_size : ℕ
status_size = 4

-- the last k digits of n, without leading zeros
unfoldable pub digits_from : ℕ → ℕ → List ℕ
digits_from zero n = []
digits_from (suc k) n = cond (eqb n 0) [] (digits_from k (n / 10) ++ (zero_digit + n % 10) ∷ [])

-- a 32-bit number in decimal
unfoldable pub decimal : ℕ → List ℕ
decimal n = cond (eqb n 0) (zero_digit ∷ []) (digits_from digit_count n)

-- numbers, each after a space
unfoldable pub items : List ℕ → List ℕ
items [] = []
items (n ∷ s) = (space ∷ decimal n) ++ items s

-- an answer's number and the numbers of the status
abbrev pub answer_text : ℕ → List ℕ → List ℕ
answer_text number status = decimal number ++ items status ++ line_feed ∷ []

-- `?`, for a line of another form
abbrev pub other_text : List ℕ
other_text = 63 ∷ line_feed ∷ []

-- a list of ids after its letter
abbrev pub list_text : ℕ → List ℕ → List ℕ
list_text letter ids = (letter ∷ items ids) ++ line_feed ∷ []

-- `after` has `text` from index `at` up to `end`, and before it what `before` had there
pub record Appended (before : List ℕ) (at : ℕ) (text : List ℕ) (after : List ℕ) (end : ℕ) : Type 0 where
  pub size : length after ≡ length before
  pub last : end ≡ at + length text
  pub held : take end after ≡ take at before ++ text
