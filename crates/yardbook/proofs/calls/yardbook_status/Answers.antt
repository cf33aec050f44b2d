use mathlib.Core.Path.{◌∙◌, ap}
use Rattle.yardbook.specs.Plain.{status_plain}
use Rattle.yardbook.proofs.calls.yardbook_status.Goals as goal

pub returns : goal.returns
returns c =
    c.from.ensures ∙ ap status_plain c.status.ensures
