use mathlib.Core.Path.{◌≡◌, sym}
use mathlib.Core.Bool.{true, false}
use Rattle.record.proofs.Booleans.{and_fails_left}
use Rattle.proposing.proofs.making.leads.Goals as goal

pub returns-then-not-wants_timeouts : goal.returns-then-not-wants_timeouts
returns-then-not-wants_timeouts c = let e : c.args.wants_timeouts ≡ false = c.if-not-wants_timeouts.true in sym (and_fails_left _ e)

pub returns : goal.returns
returns c = let e : c.args.wants_timeouts ≡ true = c.if-not-wants_timeouts.false in rw e
