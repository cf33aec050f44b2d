use mathlib.Core.Path.{◌∙◌}
use Rattle.record.specs.Layout.{record_size}
use Rattle.ordering.proofs.SameWords.{compared}
use Rattle.pending.specs.Buffer.{same_record}
use Rattle.pending.proofs.moves.same_record.Goals as goal

pub returns : goal.returns
unfolding same_record
returns c = c.eq.ensures ∙ compared record_size c.args.rec.now c.args.other.now c.requires.0 c.requires.1
