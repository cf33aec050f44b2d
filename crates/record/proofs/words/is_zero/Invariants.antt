-- Invariant: the joined words are 0 exactly if each of the first ones is: `zero_more` of `Zeros`.
use mathlib.Core.Path.{◌≡◌}
use lib.Dec.{eqb}
use lib.ListN.{get_or}
use Rattle.record.specs.Below.{all}
use Rattle.record.proofs.words.is_zero.Given as goal

abbrev pub invariant-loop-word : goal.invariant-loop-word
invariant-loop-word l = eqb l.joined 0 ≡ all l.word-index (λ k. eqb (get_or l.part k 0) 0)
