use native.Mathlib.Omega.{arith}
use mathlib.Core.Path.{ap}
use lib.ListN.{length}
use Rattle.text.proofs.Laws.{put_none}
use Rattle.text.proofs.Digits.{leading_none, leading_some, digit_length}
use Rattle.text.proofs.whole.put_leading.Goals as goal

pub returns-then-v-unit : goal.returns-then-v-unit
returns-then-v-unit c =
    rw (leading_none c.args.unit c.args.v c.if-v-unit.true) (put_none c.args.area.now c.args.to)

pub put_digit-requires : goal.put_digit-requires
put_digit-requires c =
    (c.requires.0, omega (arith, ap length (leading_some c.args.unit c.args.v c.if-v-unit.false), digit_length c.args.unit c.args.v))

pub returns : goal.returns
returns c =
    rw (leading_some c.args.unit c.args.v c.if-v-unit.false) c.put_digit.ensures
