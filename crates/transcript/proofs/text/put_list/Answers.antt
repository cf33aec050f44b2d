use native.Mathlib.Omega.{arith}
use Rattle.transcript.proofs.Digits.{items_few}
use Rattle.transcript.proofs.text.put_list.Goals as goal

pub put_byte-requires : goal.put_byte-requires
put_byte-requires c = omega (arith, items_few c.args.ids.now)
