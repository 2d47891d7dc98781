use Rattle.std.proofs.Common.{ℕ, ◌+◌, ◌*◌, Some, sym, ap, ◌∙◌}
use Rattle.text.specs.Hundredths.{decimals, magnitude, joined}
use Rattle.text.proofs.Fields.{field_none, field_whole, field_other, field_point}
use Rattle.text.proofs.Read.{with_read, with_none, value_with, none_with}
use Rattle.text.proofs.hundredths.read_magnitude.Goals as goal

pub returns-then-digits-from : goal.returns-then-digits-from
returns-then-digits-from c =
    let s = c.args.from.text.now in
    let i = c.args.from.index in
    let n = c.read_digits-digits.ensures in
    none_with magnitude s i (field_none s i c.read_digits-digits.result.end n.end_value.0 c.if-digits-from.true)

pub returns-then-is_end : goal.returns-then-is_end
returns-then-is_end c =
    let s = c.args.from.text.now in
    let i = c.args.from.index in
    let n = c.read_digits-digits.ensures in
    let w = field_whole s i c.read_digits-digits.result.end n.end_value.0 c.if-digits-from.false c.if-is_end.ensures in
    value_with magnitude s i (w.0 ∙ ap (λ (v : ℕ). Some (v * 100)) (sym n.end_value.1)) w.1

pub returns-then-from-digits-ne46 : goal.returns-then-from-digits-ne46
returns-then-from-digits-ne46 c =
    let s = c.args.from.text.now in
    let i = c.args.from.index in
    let n = c.read_digits-digits.ensures in
    none_with magnitude s i (field_other s i c.read_digits-digits.result.end n.end_value.0 n.end_in_bounds.0 c.if-is_end.ensures c.if-from-digits-ne46.true)

pub returns-in_err-decimals : goal.returns-in_err-decimals
returns-in_err-decimals c =
    let s = c.args.from.text.now in
    let i = c.args.from.index in
    let e = c.read_digits-digits.result.end in
    let n = c.read_digits-digits.ensures in
    let p = field_point s i e n.end_value.0 n.end_in_bounds.0 c.if-is_end.ensures c.if-digits-from.false c.if-from-digits-ne46.false in
    rw c.from_residual.ensures (none_with magnitude s i (p.0 ∙ ap (joined (Some _)) (with_none decimals s (e + 1) c.in_err-decimals.ensures)))

pub returns : goal.returns
returns c =
    let s = c.args.from.text.now in
    let i = c.args.from.index in
    let e = c.read_digits-digits.result.end in
    let n = c.read_digits-digits.ensures in
    let p = field_point s i e n.end_value.0 n.end_in_bounds.0 c.if-is_end.ensures c.if-digits-from.false c.if-from-digits-ne46.false in
    let d = with_read decimals s (e + 1) c.in_ok-decimals.ensures in
    value_with magnitude s i (p.0 ∙ ap (joined (Some _)) d.0 ∙ ap (λ (v : ℕ). joined (Some v) (Some c.in_ok-decimals.decimals.value)) (sym n.end_value.1)) (d.1 ∙ p.1)
