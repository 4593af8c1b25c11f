use Rattle.std.proofs.Common.{ap}
use Rattle.qccd_base.specs.Numbers.{is_led}
use Rattle.qccd_base.proofs.Led.{led-decimal}
use Rattle.qccd_base.proofs.numbers.read_number.Goals as goal

pub returns-else-is_led-clause-exact : goal.returns-else-is_led-clause-exact
returns-else-is_led-clause-exact c = λ n small. (
  λ none. absurd (cc),
  λ text. absurd (let led = led-decimal n small in let so = ap is_led text in let not_led = c.is_led.ensures in let told = c.if-is_led.false in cc),
)

pub returns-else-is_led-clause-none : goal.returns-else-is_led-clause-none
returns-else-is_led-clause-none c = λ n small text.
    absurd (let led = led-decimal n small in let so = ap is_led text in let not_led = c.is_led.ensures in let told = c.if-is_led.false in cc)
