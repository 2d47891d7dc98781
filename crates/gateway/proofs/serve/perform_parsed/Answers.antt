use mathlib.Core.Path.{refl}
use native.Mathlib.Omega.{arith}
use Rattle.commands.specs.declared.request.Store.TheVariants as store
use Rattle.tables.proofs.Ranges.{store_within}
use Rattle.gateway.proofs.serve.perform_parsed.Goals as goal

pub overflow_cast-n : goal.overflow_cast-n
overflow_cast-n c =
    let w = store_within {q = store.Step c.in-Step.n c.args.step} refl (rw c.in-Step.is at c.requires) in
    omega arith
