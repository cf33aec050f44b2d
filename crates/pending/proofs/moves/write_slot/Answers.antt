-- `slot_written` of `Writing`.
use Rattle.pending.proofs.Writing.{slot_written}
use Rattle.pending.proofs.moves.write_slot.Goals as goal

pub returns : goal.returns
returns c = search slot_written
