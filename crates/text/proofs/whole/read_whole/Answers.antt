use Prim.Native.Nat.{◌+◌}
use mathlib.Core.Path.{refl, sym, ap, ◌∙◌}
use Rattle.std.specs.Prelude.{Some}
use native.Mathlib.Omega.{arith}
use lib.ListN.{drop}
use Rattle.text.specs.Whole.{read_whole, digit_count}
use Rattle.text.proofs.Read.{value_at, wrong_at}
use Rattle.text.proofs.Fields.{end_test, some_digits, digits_end, whole_read, whole_other, whole_none}
use Rattle.text.proofs.whole.read_whole.Goals as goal
use Rattle.text.proofs.whole.read_whole.Goals.{else-digits-from-via-then-digits-from+else-is_end, else-digits-from-via-else-digits-from}

pub returns-then-is_end-clause-value : goal.returns-then-is_end-clause-value
returns-then-is_end-clause-value c =
    let t = drop c.args.from.index c.args.from.text.now in
    let n = c.read_digits-digits.ensures.end_value in
    let e = end_test c.args.from.text.now c.args.from.index (digit_count 4 t) n.0 c.is_end.ensures ∙ c.if-is_end.true in
    value_at read_whole c.args.from.text.now c.args.from.index
    (whole_read 32 refl t (some_digits c.args.from.index _ n.0 c.if-digits-from.true) e ∙ ap Some (sym n.1))
    (n.0 ∙ ap (λ m. c.args.from.index + m) (sym (digits_end 32 refl t e)))

pub returns-clause-value : goal.returns-clause-value
returns-clause-value c =
    let t = drop c.args.from.index c.args.from.text.now in
    let n = c.read_digits-digits.ensures.end_value in
    wrong_at read_whole c.args.from.text.now c.args.from.index
    (elim c.else-digits-from.branch [
      | else-digits-from-via-then-digits-from+else-is_end w ↦ whole_other 32 refl t (end_test c.args.from.text.now c.args.from.index (digit_count 4 t) n.0 w.is_end.ensures ∙ w.if-is_end.false)
      | else-digits-from-via-else-digits-from w ↦ whole_none 32 refl t (omega arith)
    ])
