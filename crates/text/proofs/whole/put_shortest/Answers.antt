use Prim.Native.Nat.{ℕ, ◌≤◌, ◌<◌}
use mathlib.Core.Path.{◌≡◌, ap}
use native.Mathlib.Omega.{arith}
use borrow.Author.Tests.{lt-ltb, le-ltb}
use lib.ListN.{length}
use Rattle.text.specs.Whole.{digit, leading, two_digits, shortest}
use Rattle.text.proofs.Laws.{put_then}
use Rattle.text.proofs.Digits.{shortest_length}
use Rattle.text.proofs.whole.put_shortest.Goals as goal

one_digit : (v : ℕ) → v < 10 → shortest v ≡ digit 1 v
unfolding shortest leading
one_digit v h = rw (lt-ltb v 1000 (omega arith), lt-ltb v 100 (omega arith), lt-ltb v 10 h)

two_digits_lem : (v : ℕ) → 10 ≤ v → v < 100 → shortest v ≡ two_digits v
unfolding shortest leading
two_digits_lem v l h = rw (lt-ltb v 1000 (omega arith), lt-ltb v 100 h, le-ltb v 10 l)

pub put_digit-requires : goal.put_digit-requires
unfolding digit
put_digit-requires c =
    (omega arith, omega (arith, ap length (one_digit c.args.v c.if-v-lt10.true)))

pub returns-then-v-lt10 : goal.returns-then-v-lt10
returns-then-v-lt10 c =
    rw (one_digit _ c.if-v-lt10.true) c.put_digit.ensures

pub put_two_digits-requires : goal.put_two_digits-requires
unfolding digit
put_two_digits-requires c =
    omega (arith, ap length (two_digits_lem c.args.v c.if-v-lt10.false c.if-v-lt100.true))

pub returns-then-v-lt100 : goal.returns-then-v-lt100
returns-then-v-lt100 c =
    rw (two_digits_lem _ c.if-v-lt10.false c.if-v-lt100.true) c.put_two_digits.ensures

pub put_leading-hundreds-requires : goal.put_leading-hundreds-requires
put_leading-hundreds-requires c =
    (omega arith, omega (arith, shortest_length c.args.v))

pub put_leading-tens-requires : goal.put_leading-tens-requires
put_leading-tens-requires c =
    (omega arith, omega (arith, shortest_length c.args.v, c.put_leading-hundreds.auto.area, c.put_leading-hundreds.ensures.next))

pub put_leading-ones-requires : goal.put_leading-ones-requires
put_leading-ones-requires c =
    (omega arith, omega (arith, shortest_length c.args.v, c.put_leading-hundreds.auto.area, c.put_leading-hundreds.ensures.next, c.put_leading-tens.auto.area, c.put_leading-tens.ensures.next))

pub put_digit-requires-2 : goal.put_digit-requires-2
put_digit-requires-2 c =
    (omega arith, omega (arith, shortest_length c.args.v, c.put_leading-hundreds.auto.area, c.put_leading-hundreds.ensures.next, c.put_leading-tens.auto.area, c.put_leading-tens.ensures.next, c.put_leading-ones.auto.area, c.put_leading-ones.ensures.next))

pub returns : goal.returns
unfolding shortest
returns c =
    put_then c.put_leading-hundreds.ensures (put_then c.put_leading-tens.ensures (put_then c.put_leading-ones.ensures c.put_digit-2.ensures))
