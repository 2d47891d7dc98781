use Prim.Native.Nat.{ℕ}
use mathlib.Core.Path.{sym, ap, ◌∙◌}
use mathlib.Core.List.{[], ◌∷◌}
use native.Mathlib.Omega.{arith}
use lib.ListN.{length, get_or}
use Rattle.text.proofs.Parts.{begun, moved, done}
use Rattle.steps.proofs.Laws.{leading, leading_none, leading_stop, leading_more, leading_le}
use Rattle.steps.proofs.texts.put_text.Goals as goal

pub loop-b-init : goal.loop-b-init
loop-b-init c =
    let e = ap leading c.to_le_bytes-b-items.ensures ∙ leading_le c.args.t.0 in
    rw e begun

pub returns-then-not-is_char : goal.returns-then-not-is_char
returns-then-not-is_char c =
    done (rw (leading_stop c.to_le_bytes-b-items.result c.loop-b.b-index (omega arith) (sym c.is_char.ensures ∙ c.if-not-is_char.true)) at c.loop-b.invariant)

pub put_byte-end-requires : goal.put_byte-end-requires
put_byte-end-requires c =
    let e = leading_more c.to_le_bytes-b-items.result c.loop-b.b-index (omega arith) (sym c.is_char.ensures ∙ c.if-not-is_char.false) in
    omega (arith, ap length e, c.loop-b.invariant.next, c.loop-b.invariant.size)

pub loop-b-preserved : goal.loop-b-preserved
loop-b-preserved c =
    let b : ℕ = get_or c.to_le_bytes-b-items.result c.loop-b.b-index 0 in
    let e = leading_more c.to_le_bytes-b-items.result c.loop-b.b-index (omega arith) (sym c.is_char.ensures ∙ c.if-not-is_char.false) in
    moved (b ∷ []) (rw e at c.loop-b.invariant) c.put_byte-end.ensures c.put_byte-end.auto.area

pub returns : goal.returns
returns c =
    done (rw (leading_none c.to_le_bytes-b-items.result c.loop-b.b-index (omega arith)) at c.loop-b.invariant)
