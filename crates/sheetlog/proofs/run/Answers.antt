use Rattle.std.proofs.Common.{arith}
use Rattle.std.proofs.lemmas.Result.{on_ok_weaker}
use Rattle.sheetlog.proofs.Streams.{whole_output}
use Rattle.sheetlog.proofs.run.Goals as goal

pub returns : goal.returns
returns g c =
    on_ok_weaker c.flush.result
    (whole_output (g.R.Read.remaining c.args.reader.now) (g.W.Write.contents c.args.writer.now) (g.W.Write.contents c.answer_all.new.writer) _
    c.answer_all.new.line c.in_ok-kept.kept c.answer_all.new.state
    (c.in_ok-kept.ensures.answered (omega arith)) c.answer_end-filled.ensures) c.flush.ensures
