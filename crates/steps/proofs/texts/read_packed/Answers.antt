use mathlib.Core.Path.{sym, ◌∙◌}
use native.Mathlib.Omega.{arith}
use Rattle.steps.proofs.Laws.{packed_none, packed_bad, packed_more, packed_small, read_bad}
use Rattle.steps.proofs.texts.read_packed.Goals as goal

pub loop-b-init : goal.loop-b-init
loop-b-init c =
    packed_none _ _ cc

pub returns-then-not-is_char : goal.returns-then-not-is_char
returns-then-not-is_char c =
    rw (read_bad c.args.field.now (omega arith) (omega arith) (packed_bad c.loop-b.invariant _ _ c.in-Some.ensures.steps (sym c.is_char.ensures ∙ c.if-not-is_char.true)))

pub overflow_mul-n : goal.overflow_mul-n
overflow_mul-n c =
    omega (arith, packed_small c.loop-b.invariant _ _ c.in-Some.ensures.steps (omega arith))

pub overflow_add-n : goal.overflow_add-n
overflow_add-n c =
    omega (arith, packed_small c.loop-b.invariant _ _ c.in-Some.ensures.steps (omega arith))

pub loop-b-preserved : goal.loop-b-preserved
loop-b-preserved c =
    packed_more c.loop-b.invariant _ _ c.in-Some.ensures.steps (sym c.is_char.ensures ∙ c.if-not-is_char.false)
