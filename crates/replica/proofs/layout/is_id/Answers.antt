use mathlib.Core.Path.{sym}
use Rattle.record.proofs.Rounds.{id_low, id_test}
use Rattle.replica.proofs.layout.is_id.Goals as goal

pub returns-then-x-lt-SLOTS : goal.returns-then-x-lt-SLOTS
returns-then-x-lt-SLOTS c = sym (id_low _ c.if-x-lt-SLOTS.true)

pub returns : goal.returns
returns c = id_test _ c.if-x-lt-SLOTS.false
