use Rattle.std.proofs.Common.{rules, tests}
use Rattle.record.proofs.Below.{all_range}
use Rattle.replica.proofs.wellformed.all_marked.Goals as goal

pub returns : goal.returns
returns c = all_range _ _ _ _ _ c.all.ensures.ran (λ x b q k. search (rules, tests))
