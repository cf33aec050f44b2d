use Rattle.transcript.proofs.Numerals.{led_none, led_one, led_more}
use Rattle.transcript.proofs.numeral.is_led.Goals as goal

pub returns-then-s-eq0 : goal.returns-then-s-eq0
returns-then-s-eq0 c = led_none _ c.if-s-eq0.true

pub returns-then-s-eq1 : goal.returns-then-s-eq1
returns-then-s-eq1 c = led_one _ c.if-s-eq1.true

pub returns : goal.returns
returns c =
    led_more _ c.if-s-eq0.false c.if-s-eq1.false
