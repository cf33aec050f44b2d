-- The laws of marks, of `Laws`.
use mathlib.Core.Bool.{not}
use mathlib.Core.Path.{ap}
use Rattle.proposing.proofs.Laws.{marks_none, marks_bit, round_known}
use Rattle.record.specs.Members.{rounds}
use Prim.Native.Nat.{◌≤◌}
use borrow.Author.Rules.{rules}
use Rattle.proposing.proofs.own.marks_round.Goals as goal
use Rattle.proposing.proofs.own.marks_round.Goals.{Else-not-is_round}

-- the round is one
known : (c : Else-not-is_round) → (1 ≤ c.args.round) × (c.args.round ≤ rounds)
known c = round_known _ _ c.is_round.ensures (ap not c.if-not-is_round.false)

pub returns-then-not-is_round : goal.returns-then-not-is_round
returns-then-not-is_round c = search marks_none

pub overflow_sub-round : goal.overflow_sub-round
overflow_sub-round c = let k = known c in search rules

pub has_bit-requires : goal.has_bit-requires
has_bit-requires c = let k = known c in search rules

pub returns : goal.returns
returns c = search marks_bit
