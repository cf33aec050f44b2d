use mathlib.Core.Path.{◌∙◌}
use native.Mathlib.Omega.{arith}
use Rattle.record.specs.Layout.{weak_of, weak_place, weak_slots}
use Rattle.record.proofs.Zeros.{rest_part}
use Rattle.record.proofs.questions.slots_zero.Goals as goal

pub returns : goal.returns
unfolding weak_of
returns c =
    c.is_zero.ensures ∙ rest_part c.args.body.now weak_place weak_slots c.args.count c.requires.1 (omega (arith, c.requires.0))
