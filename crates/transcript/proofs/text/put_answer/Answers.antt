use native.Mathlib.Omega.{arith}
use Rattle.transcript.proofs.Digits.{items_few, decimal_few}
use Rattle.transcript.proofs.text.put_answer.Goals as goal

pub put_items-last-requires : goal.put_items-last-requires
put_items-last-requires c = omega (arith, decimal_few c.args.number)

pub put_byte-requires : goal.put_byte-requires
put_byte-requires c = omega (arith, decimal_few c.args.number, items_few c.args.status.now)
