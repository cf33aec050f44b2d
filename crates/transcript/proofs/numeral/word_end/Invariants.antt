use mathlib.Core.Path.{◌≡◌}
use Prim.Native.Nat.{◌+◌}
use lib.ListN.{length, drop}
use Rattle.transcript.specs.Grammar.{up_to_space}
use Rattle.transcript.proofs.numeral.word_end.Given as goal

abbrev pub invariant-loop-i : goal.invariant-loop-i
invariant-loop-i l = l.i + length (up_to_space (drop l.i l.line)) ≡ l.from + length (up_to_space (drop l.from l.line))
