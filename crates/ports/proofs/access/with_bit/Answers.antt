use native.Mathlib.Omega.{arith}
use borrow.Author.Rules.{rules}
use Rattle.ports.proofs.Bits.{steps}
use Rattle.ports.proofs.access.with_bit.Goals as goal

pub overflow_add-result : goal.overflow_add-result
overflow_add-result c =
    omega (arith, steps c.args.b c.args.k c.args.v (search rules) (search rules) (search rules))
