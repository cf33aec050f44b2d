-- A part of lent words: which words, and where they lie in memory.
use Rattle.std.specs.Prelude.{List, ℕ, ◌+◌, ◌*◌, take, drop}
use Rattle.std.specs.Borrow.{Bor}

-- what handing over answers: the number, the part's first word, and how many words it has
pub record Span : Type 0 where
  pub number : ℕ
  pub start : ℕ
  pub length : ℕ

-- the words of the part
abbrev pub words_in : List ℕ → Span → List ℕ
words_in l s = take s.length (drop s.start l)

-- a slice: its block of memory, the byte in the block where it begins, and its words
pub record Part : Type 0 where
  pub block : ℕ
  pub byte : ℕ
  pub words : List ℕ

abbrev pub part_of : Bor (List ℕ) → Part
part_of x = record { block = x.ref_ptr.0; byte = x.ref_ptr.1; words = x.now }

-- the bytes of a word
abbrev pub word_size : ℕ
word_size = 4

-- the span's part of the slice x, where it lies in x
abbrev pub cut : Bor (List ℕ) → Span → Part
cut x s = record { block = x.ref_ptr.0; byte = s.start * word_size + x.ref_ptr.1; words = words_in x.now s }
