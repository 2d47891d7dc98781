use native.Mathlib.Omega.{arith}
use Rattle.text.proofs.Laws.{put_then}
use Rattle.text.proofs.Digits.{digit_length}
use Rattle.text.proofs.whole.put_two_digits.Goals as goal

pub put_digit-requires : goal.put_digit-requires
put_digit-requires c =
    (omega arith, omega (arith, digit_length 10 c.args.v, c.put_digit-last.auto.area, c.put_digit-last.ensures.next))

pub returns : goal.returns
returns c =
    put_then c.put_digit-last.ensures c.put_digit.ensures
