use Rattle.std.proofs.Common.{◌≡◌, ℕ, ◌+◌, ◌^◌, ◌<◌, List, Ok, length, drop, refl, subst, arith}
use Rattle.text.specs.declared.field.Field.{Field}
use Rattle.text.specs.Scan.{field_at}
use Rattle.text.specs.Read.{read_field_at}
use Rattle.text.specs.Whole.{read_whole}
use Rattle.text.specs.Hundredths.{decimals}
use Rattle.text.proofs.Decimals.{Below, whole_below}
use Rattle.text.proofs.Fields.{part_length, decimals_none, decimals_one, decimals_two, decimals_more}
use Rattle.text.proofs.Read.{field_read, field_wrong, value_with, none_with}
use Rattle.text.proofs.hundredths.read_decimals.Goals as goal

-- what the field at i is, where it was read as the digits d
module _ (s : List ℕ) (i : ℕ) {d : Field ℕ} (e : Ok d ≡ read_field_at read_whole s i) where
  size : i + length (field_at s i) ≡ d.end
  size = omega (arith, part_length 32 refl (drop i s), (field_read read_whole s i e).1)

  small : length (field_at s i) ≡ 1 → d.value < 10
  small l =
      let b : d.value < 10 ^ length (field_at s i) = subst (Below (10 ^ length (field_at s i))) (field_read read_whole s i e).0 (whole_below (field_at s i)) in
      omega (arith, subst (λ (n : ℕ). d.value < 10 ^ n) l b)

pub returns-in_default : goal.returns-in_default
returns-in_default c =
    let s = c.args.from.text.now in
    let i = c.args.from.index in
    none_with decimals s i (decimals_none (field_at s i) (field_wrong read_whole s i c.in_default.ensures.value).0)

pub overflow_mul-result : goal.overflow_mul-result
overflow_mul-result c =
    let e = c.in-Ok.ensures.value in
    let l = size c.args.from.text.now c.args.from.index e in
    omega (arith, small c.args.from.text.now c.args.from.index e (omega arith))

pub returns-in-1 : goal.returns-in-1
returns-in-1 c =
    let s = c.args.from.text.now in
    let i = c.args.from.index in
    let l = size s i c.in-Ok.ensures.value in
    let r = field_read read_whole s i c.in-Ok.ensures.value in
    value_with decimals s i (decimals_one (field_at s i) r.0 (omega arith)) r.1

pub returns-in-2 : goal.returns-in-2
returns-in-2 c =
    let s = c.args.from.text.now in
    let i = c.args.from.index in
    let l = size s i c.in-Ok.ensures.value in
    let r = field_read read_whole s i c.in-Ok.ensures.value in
    value_with decimals s i (decimals_two (field_at s i) r.0 (omega arith)) r.1

pub returns-in_default-2 : goal.returns-in_default-2
returns-in_default-2 c =
    let s = c.args.from.text.now in
    let i = c.args.from.index in
    let l = size s i c.in-Ok.ensures.value in
    let r = field_read read_whole s i c.in-Ok.ensures.value in
    none_with decimals s i (decimals_more (field_at s i) r.0 (λ z. omega arith) (λ z. omega arith))
