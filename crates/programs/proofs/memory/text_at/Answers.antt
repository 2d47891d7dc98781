use Prim.Native.Nat.{ℕ, ◌+◌, ◌-◌}
use mathlib.Core.Path.{◌≡◌, ap}
use native.Mathlib.Omega.{arith}
use lib.ListN.{take, drop}
use Rattle.programs.proofs.Laws.{read_none, read_all, read_small, read_more}
use Rattle.programs.proofs.memory.text_at.Goals as goal

pub loop-b-init : goal.loop-b-init
loop-b-init c =
    let k : c.args.at + 8 - c.args.at ≡ 8 = omega arith in
    let e = ap (λ (n : ℕ). take n (drop c.args.at c.args.programs.now)) k in
    read_none c.args.programs.now c.args.at _ c.requires cc

pub added-n-requires : goal.added-n-requires
added-n-requires c =
    read_small c.loop-b.invariant _ _ c.in-Some.ensures.steps

pub loop-b-preserved : goal.loop-b-preserved
loop-b-preserved c =
    rw c.added-n.ensures (read_more c.loop-b.invariant _ _ c.in-Some.ensures.steps)

pub returns : goal.returns
returns c =
    read_all c.loop-b.invariant c.in-None.ensures.steps.0
