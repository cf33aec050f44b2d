use mathlib.Core.Path.{◌≡◌}
use mathlib.Core.List.{◌++◌}
use lib.ListN.{length, drop}
use Rattle.transcript.specs.Text.{digits_from}
use Rattle.transcript.proofs.text.digits_of.Given as goal

abbrev pub invariant-loop-i : goal.invariant-loop-i
invariant-loop-i l = (length l.bytes ≡ 10) × (digits_from l.i l.rest ++ drop l.i l.bytes ≡ digits_from 10 l.n)
