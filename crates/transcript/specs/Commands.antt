-- The form of an input line without its line feed: a letter, and as many words as the letter wants.
use Rattle.std.specs.Prelude.{cond, List, [], ◌∷◌, ℕ, eqb, get_or, Option, Some, None, option_and_then}
use Rattle.std.specs.Option.{option_map}
use Rattle.record.specs.Layout.{record_size}
use Rattle.transcript.specs.Grammar.{scanned}
use Rattle.transcript.specs.declared.command.Kind.{Kind}
use Rattle.transcript.specs.declared.command.Kind.TheVariants.{Open, Vertex, First, Timeout, NoVote}
use Rattle.transcript.specs.declared.command.Command.{Command}
use Rattle.transcript.specs.declared.command.Command.TheVariants as command

-- the letters O, V, F, T and N
abbrev pub kind_of : ℕ → Option Kind
kind_of b =
    cond (eqb b 79) (Some Open)
    (cond (eqb b 86) (Some Vertex)
    (cond (eqb b 70) (Some First)
    (cond (eqb b 84) (Some Timeout)
    (cond (eqb b 78) (Some NoVote) None))))

-- how many words each wants
abbrev pub word_count : Kind → ℕ
word_count Open = 1
word_count Vertex = record_size
word_count First = record_size
word_count Timeout = 2
word_count NoVote = 2

-- the command of that kind, of those of the words that it has
abbrev pub command_with : Kind → List ℕ → Command
command_with Open words = command.Open (get_or words 0 0)
command_with Vertex words = command.Vertex words
command_with First words = command.First words
command_with Timeout words = command.Timeout (get_or words 0 0) (get_or words 1 0)
command_with NoVote words = command.NoVote (get_or words 0 0) (get_or words 1 0)

-- a line of that kind, s what follows its letter
abbrev pub command_from : Kind → List ℕ → Option Command
command_from kind s = option_map (command_with kind) (scanned (word_count kind) s)

-- a line of another form has no command
abbrev pub command_of : List ℕ → Option Command
command_of [] = None
command_of (letter ∷ s) = option_and_then (λ (kind : Kind). command_from kind s) (kind_of letter)
