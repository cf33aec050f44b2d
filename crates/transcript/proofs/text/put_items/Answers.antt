use lib.ListN.{get_or}
use native.Mathlib.Omega.{arith}
use Rattle.transcript.proofs.Digits.{appended_none, appended_item, items_none, decimal_few}
use Rattle.transcript.proofs.text.put_items.Goals as goal

pub loop-number-init : goal.loop-number-init
loop-number-init c = (omega arith, rw items_none (appended_none _ _))

pub loop-number-preserved : goal.loop-number-preserved
loop-number-preserved c = (
  omega (
    arith,
    c.put_byte-start.ensures.last,
    c.put_number-end.ensures.last,
    decimal_few (get_or c.args.numbers.now c.loop-number.number-index 0),
  ),
  appended_item _ _ _ _ _ _ c.loop-number-test.true c.loop-number.invariant.1 c.put_byte-start.ensures c.put_number-end.ensures,
)
