use native.Mathlib.Omega.{arith}
use Rattle.text.specs.Hundredths.{magnitude_text}
use Rattle.text.proofs.Laws.{put_then}
use Rattle.text.proofs.Decimals.{magnitude_length}
use Rattle.text.proofs.hundredths.put_magnitude.Goals as goal

pub put_shortest-point-requires : goal.put_shortest-point-requires
put_shortest-point-requires c =
    omega (arith, magnitude_length c.args.m)

pub put_byte-decimals-requires : goal.put_byte-decimals-requires
put_byte-decimals-requires c =
    omega (arith, magnitude_length c.args.m, c.put_shortest-point.auto.area, c.put_shortest-point.ensures.next)

pub put_two_digits-requires : goal.put_two_digits-requires
put_two_digits-requires c =
    omega (arith, magnitude_length c.args.m, c.put_shortest-point.auto.area, c.put_shortest-point.ensures.next, c.put_byte-decimals.auto.area, c.put_byte-decimals.ensures.next)

pub returns : goal.returns
unfolding magnitude_text
returns c =
    put_then c.put_shortest-point.ensures (put_then c.put_byte-decimals.ensures c.put_two_digits.ensures)
