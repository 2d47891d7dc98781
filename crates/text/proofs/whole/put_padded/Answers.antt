use native.Mathlib.Omega.{arith}
use Rattle.text.specs.Whole.{padded}
use Rattle.text.proofs.Laws.{put_then}
use Rattle.text.proofs.Digits.{digit_length}
use Rattle.text.proofs.whole.put_padded.Goals as goal

pub put_digit-tens-requires : goal.put_digit-tens-requires
put_digit-tens-requires c =
    (omega arith, omega (arith, digit_length 1000 c.args.v, c.put_digit-hundreds.auto.area, c.put_digit-hundreds.ensures.next))

pub put_two_digits-requires : goal.put_two_digits-requires
put_two_digits-requires c =
    omega (arith, digit_length 1000 c.args.v, c.put_digit-hundreds.auto.area, c.put_digit-hundreds.ensures.next, digit_length 100 c.args.v, c.put_digit-tens.auto.area, c.put_digit-tens.ensures.next)

pub returns : goal.returns
unfolding padded
returns c =
    put_then c.put_digit-hundreds.ensures (put_then c.put_digit-tens.ensures c.put_two_digits.ensures)
