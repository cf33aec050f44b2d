use Rattle.std.proofs.Common.{refl, rules, arith, [], ◌++◌, take, length-append}
use Rattle.std.proofs.KnownBytes.{Consumes-nil, Consumes-trans}
use Rattle.sheetlog.proofs.Streams.{answered_none, answered_more}
use Rattle.sheetlog.proofs.answer_all.Goals as goal

pub loop-turn-init : goal.loop-turn-init
loop-turn-init g c = record {
  kept = omega arith;
  input_size = refl;
  line_size = refl;
  out_size = refl;
  answered = ([], Consumes-nil _, answered_none _ _ _, omega arith);
}

pub loop-turn-preserved : goal.loop-turn-preserved
loop-turn-preserved g c =
    let so_far = c.loop-turn.invariant.answered in
    let more = take c.in_ok-n.n c.read.new.buf in
    record {
      kept = c.answer_block-fill.ensures.kept;
      input_size = search rules;
      line_size = search rules;
      out_size = search rules;
      answered = (
        so_far.0 ++ more,
        Consumes-trans (g.R.Read.remaining c.args.reader.now) (g.R.Read.remaining c.loop-turn.reader) (g.R.Read.remaining c.read.new.self) so_far.0 more
            so_far.1 c.in_ok-n.ensures.bytes.0,
        answered_more so_far.0 more c.args.state.now so_far.2 c.answer_block-fill.ensures c.in_ok-flush.ensures,
        omega (arith, so_far.3, length-append so_far.0 more, c.in_ok-n.ensures.bound.1),
      );
    }
