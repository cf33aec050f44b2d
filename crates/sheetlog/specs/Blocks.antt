-- What the program's buffers hold: the output of a block, the first bytes of the line that it leaves, and the state.
use Rattle.std.specs.Prelude.{◌≡◌, List, [], ℕ, ◌+◌, ◌*◌, ◌≤◌, length, take}
use Rattle.transcript.specs.Text.{item_size}
use Rattle.transcript.specs.Claims.{longest_line, longest_answer}
use Rattle.sheetlog.specs.Output.{Reading, feed}
use Rattle.sheetlog.specs.declared.buffers.Fill.{Fill}

-- how much of a line is kept
abbrev pub kept_size : ℕ
kept_size = longest_line + 1

-- how many bytes are read at a time
abbrev pub block_size : ℕ
block_size = 8192

-- room for what is printed at the end, with a state of so many words: each of them twice, two letters, a `?` and their line feeds
abbrev pub end_size : ℕ → ℕ
end_size words = 2 * (item_size * words) + 6

-- the same, with no more of the line than is kept
abbrev pub cut : Reading → Reading
cut r = record { printed = r.printed; line = take kept_size r.line; state = r.state }

-- what a block of bytes prints and leaves, after what is kept of a line, and a state
unfoldable pub block : List ℕ → List ℕ → List ℕ → Reading
block line state bytes = cut (feed (record { printed = []; line = line; state = state }) bytes)

-- what the buffers hold
abbrev pub held : List ℕ → Fill → List ℕ → List ℕ → Reading
held line fill out state = record { printed = take fill.filled out; line = take fill.kept line; state = state }

-- the buffers hold that reading, and nothing of it is missing
pub record Holds (r : Reading) (line : List ℕ) (fill : Fill) (out state : List ℕ) : Type 0 where
  pub kept : fill.kept ≤ length line
  pub filled : fill.filled ≤ length out
  pub equal : held line fill out state ≡ r

-- the line's buffer has its size, and the output has room for the replies of so many lines
pub record Room (lines : ℕ) (line : List ℕ) (fill : Fill) (out : List ℕ) : Type 0 where
  pub line_size : length line ≡ kept_size
  pub kept : fill.kept ≤ length line
  pub replies : fill.filled + longest_answer * lines ≤ length out
