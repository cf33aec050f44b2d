-- The questions in turn, and the words of an opened state: `open_size`, `open_group`, `open_own` and `open_all` of `OpeningLaws`.
use Rattle.replica.proofs.OpeningLaws.{open_size, open_group, open_own, own_fits, open_all}
use Rattle.replica.proofs.opening.open.Goals as goal

pub returns-then-state-ne-STATE_SIZE : goal.returns-then-state-ne-STATE_SIZE
returns-then-state-ne-STATE_SIZE c = search open_size

pub returns-then-not-is_legal : goal.returns-then-not-is_legal
returns-then-not-is_legal c = search open_group

pub returns-then-n-own : goal.returns-then-n-own
returns-then-n-own c = search open_own

pub bounds-state-5 : goal.bounds-state-5
bounds-state-5 c = search own_fits

pub returns : goal.returns
returns c = search open_all
