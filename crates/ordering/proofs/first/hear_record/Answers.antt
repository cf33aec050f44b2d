-- `hear_record` meets its contract. Assumes nothing.
use Rattle.ordering.proofs.Heard.{Marked, marked}
use borrow.Author.Rules.{rules}
use Rattle.ordering.proofs.first.hear_record.Goals as goal
use Rattle.ordering.proofs.first.hear_record.Goals.{After-add_member}

-- the source is heard
known : (c : After-add_member) → Marked c.args.state.now c.args.round c.args.source c.args.n c.args.strong c.masks_at-at.result c.add_member.new.state
known c = search marked

pub returns-then-round-lt2 : goal.returns-then-round-lt2
returns-then-round-lt2 c = search (known (goal.at.returns-then-round-lt2 c).After-add_member).first

pub has_bit-requires : goal.has_bit-requires
has_bit-requires c = let k = known (goal.at.has_bit-requires c).After-add_member in search rules

pub returns-then-has_bit : goal.returns-then-has_bit
returns-then-has_bit c = search (known (goal.at.returns-then-has_bit c).After-add_member).voting

pub returns-else-has_bit : goal.returns-else-has_bit
returns-else-has_bit c = search (known (goal.at.returns-else-has_bit c).After-add_member).silent
