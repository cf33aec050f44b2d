use Rattle.record.proofs.Masks.{within_largest}
use mathlib.Core.Path.{ap, ◌∙◌}
use lib.Dec.{leb}
use native.Mathlib.Omega.{arith}
use Rattle.record.proofs.members.is_within.Goals as goal

pub returns : goal.returns
returns c =
    ap (leb c.args.bits) c.largest_mask.ensures ∙ within_largest _ _ (omega arith)
