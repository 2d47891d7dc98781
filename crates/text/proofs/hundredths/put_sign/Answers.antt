use native.Mathlib.Omega.{arith}
use Rattle.text.specs.Hundredths.{sign}
use Rattle.text.proofs.Laws.{put_none}
use Rattle.text.proofs.hundredths.put_sign.Goals as goal

pub put_byte-requires : goal.put_byte-requires
unfolding sign
put_byte-requires c =
    omega (arith, rw c.if-minus.true at c.requires)

pub returns-then-minus : goal.returns-then-minus
unfolding sign
returns-then-minus c =
    rw c.if-minus.true c.put_byte.ensures

pub returns : goal.returns
unfolding sign
returns c =
    rw c.if-minus.false (put_none _ _)
