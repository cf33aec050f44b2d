-- Claims about the grammar and the printed numbers. Each has a term in `proofs/Claims`.
use Rattle.std.specs.Prelude.{◌≡◌, List, ℕ, ◌+◌, ◌*◌, ◌≤◌, ◌<◌, length, take, Some, None}
use Rattle.record.specs.Layout.{record_size}
use Rattle.transcript.specs.Grammar.{largest, numeral_value}
use Rattle.transcript.specs.Commands.{command_of}
use Rattle.transcript.specs.Text.{item_size, status_size, decimal, answer_text}

-- the longest line of the form: a letter, and the words of a record
abbrev pub longest_line : ℕ
longest_line = 1 + item_size * record_size

-- the longest line of an answer: its number and those of the status, and a space or the line feed after each
abbrev pub longest_answer : ℕ
longest_answer = item_size * (1 + status_size)

abbrev pub AnswerSize : Type 0
AnswerSize = (number : ℕ) (status : List ℕ) → length status ≡ status_size → length (answer_text number status) ≤ longest_answer

-- what is printed is a numeral, and is read back
abbrev pub ReadBack : Type 0
ReadBack = (n : ℕ) → n ≤ largest → numeral_value (decimal n) ≡ Some n

-- a longer line is of another form
abbrev pub LongLines : Type 0
LongLines = (line : List ℕ) → longest_line < length line → command_of line ≡ None

-- so whoever reads lines of any length need keep only one byte more
abbrev pub KeptLines : Type 0
KeptLines = (line : List ℕ) (kept : ℕ) → longest_line < kept → command_of (take kept line) ≡ command_of line
