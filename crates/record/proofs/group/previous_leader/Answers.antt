use mathlib.Core.Path.{sym}
use Rattle.record.proofs.Masks.{leader_none}
use Rattle.record.proofs.group.previous_leader.Goals as goal

pub returns-then-round-eq1 : goal.returns-then-round-eq1
returns-then-round-eq1 c = sym (leader_none _ _ c.if-round-eq1.true)
