-- The loop's invariant: the ids of the members below p have been offered.
use mathlib.Core.Path.{◌≡◌}
use Rattle.proposing.specs.Inner.{offer_round}
use Rattle.proposing.proofs.weak.offer_round.Given as goal

abbrev pub invariant-loop-p : goal.invariant-loop-p
invariant-loop-p l = l.words ≡ offer_round l.initial.words l.most l.held l.reached l.round l.p
