use Prim.Native.Nat.{◌≤◌, ◌+◌, ◌*◌}
use lib.ListN.{take}
use Rattle.transcript.specs.Text.{item_size, Appended, items}
use Rattle.transcript.proofs.text.put_items.Given as goal

abbrev pub invariant-loop-number : goal.invariant-loop-number
invariant-loop-number l =
    (l.end ≤ l.at + item_size * l.number-index) × Appended l.initial.out l.at (items (take l.number-index l.numbers)) l.out l.end
