-- `is_buffer` meets its contract. Assumes nothing.
use borrow.Author.Rules.{rules}
use Rattle.pending.proofs.Order.{not_sized, too_many, not_rising, all_rise}
use Rattle.pending.proofs.buffer.is_buffer.Goals as goal

pub returns : goal.returns
returns c =
    all_rise c.args.group.n c.args.buffer.now _ c.records_ok.ensures (search) (search rules) (search rules) _ c.slot_at-rest.ensures _
    c.is_zero.ensures

pub returns-then-buffer-ne-BUFFER_SIZE : goal.returns-then-buffer-ne-BUFFER_SIZE
returns-then-buffer-ne-BUFFER_SIZE c = search not_sized

pub returns-then-count-gt-BUFFER_SLOTS : goal.returns-then-count-gt-BUFFER_SLOTS
returns-then-count-gt-BUFFER_SLOTS c = search too_many

pub returns-then-not-records_ok : goal.returns-then-not-records_ok
returns-then-not-records_ok c = search not_rising
