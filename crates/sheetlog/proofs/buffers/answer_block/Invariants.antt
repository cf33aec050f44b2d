use Rattle.transcript.specs.Claims.{longest_answer}
use Rattle.sheetlog.specs.Blocks.{block, Holds}
use lib.ListN.{take}
use Prim.Native.Nat.{◌≤◌, ◌*◌}
use Rattle.sheetlog.proofs.buffers.answer_block.Given as goal

abbrev pub invariant-loop-b : goal.invariant-loop-b
invariant-loop-b l = (l.fill.filled ≤ longest_answer * l.b-index)
    × Holds (block (take l.kept l.initial.line) l.initial.state (take l.b-index l.input)) l.line l.fill l.out l.state
