-- What the program does with a reader's bytes: what they print goes to a writer, and the buffers keep the start of the line and the state that they leave.
use Rattle.std.specs.Prelude.{◌≡◌, List, [], ℕ, ◌-◌, ◌^◌, ◌<◌, length, take, Option}
use Rattle.std.specs.Io.KnownBytes.{Appends}
use Rattle.sheetlog.specs.Output.{Reading, feed}
use Rattle.sheetlog.specs.Blocks.{kept_size}

-- fewer bytes than the blocks that the program counts: longer than any run
abbrev pub IsShort : List ℕ → Type 0
IsShort bytes = length bytes < 2 ^ 64 - 1

-- what the bytes print and leave, from a state
abbrev pub fed : List ℕ → List ℕ → Reading
fed began bytes = feed (record { printed = []; line = []; state = began }) bytes

pub record Answered (bytes began : List ℕ) (old new : Option (List ℕ)) (line : List ℕ) (kept : ℕ) (state : List ℕ) : Type 0 where
  pub printed : Appends old new (fed began bytes).printed
  pub line_kept : take kept line ≡ take kept_size (fed began bytes).line
  pub state_left : state ≡ (fed began bytes).state
