-- The loop's invariant: the rounds up to t have been offered.
use mathlib.Core.Path.{◌≡◌}
use Rattle.proposing.specs.Inner.{offer_rounds}
use Rattle.proposing.proofs.weak.offer_rounds.Given as goal

abbrev pub invariant-loop-t : goal.invariant-loop-t
invariant-loop-t l = l.words ≡ offer_rounds l.initial.words l.most l.state l.reached l.t
