-- The bytes so far are answered, and the buffers keep their lengths.
use Rattle.std.proofs.Common.{◌≡◌, ◌≤◌, length, List, ℕ}
use Rattle.std.specs.Io.KnownBytes.{Consumes}
use Rattle.sheetlog.specs.Streams.{Answered}
use Rattle.sheetlog.proofs.answer_all.Given as goal

abbrev pub invariant-loop-turn : goal.invariant-loop-turn
invariant-loop-turn g l = record {
  kept : l.kept ≤ length l.line;
  input_size : length l.input ≡ length l.initial.input;
  line_size : length l.line ≡ length l.initial.line;
  out_size : length l.out ≡ length l.initial.out;
  answered : (bytes : List ℕ) × Consumes (g.R.Read.remaining l.initial.reader) (g.R.Read.remaining l.reader) bytes
      × Answered bytes l.initial.state (g.W.Write.contents l.initial.writer) (g.W.Write.contents l.writer) l.line l.kept l.state
      × l.turn ≤ length bytes;
}
