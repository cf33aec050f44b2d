-- Where each word of the pending buffer (02: shelf) stands, and how many there are. Every size and place of them is written here.
use Rattle.std.specs.Prelude.{ℕ, ◌+◌, ◌*◌}
use Rattle.record.specs.Layout.{record_size}

-- the most records that it holds
abbrev pub buffer_slots : ℕ
buffer_slots = 32

-- the count, and then a slot for each record
abbrev pub count_place : ℕ
count_place = 0

abbrev pub slots_place : ℕ
slots_place = 1

-- the first word of slot j
abbrev pub slot_at : ℕ → ℕ
slot_at j = slots_place + record_size * j

abbrev pub buffer_size : ℕ
buffer_size = slot_at buffer_slots
