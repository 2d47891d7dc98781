use Prim.Native.Nat.{◌≤◌}
use mathlib.Core.Path.{◌≡◌, refl, ap, ◌∙◌}
use mathlib.Core.List.{List, [], ◌∷◌}
use Rattle.std.specs.Prelude.{Option, None, Some, option_map}
use Rattle.std.proofs.lemmas.Result.{err_from_is_err_and}
use native.Mathlib.Omega.{arith}
use native.Mathlib.Nat.{sub-zero}
use borrow.Author.Rules.{rules}
use lib.Dec.{eqb}
use lib.IntN.{ℤ, pos}
use lib.ListN.{length, drop, length-drop}
use lib.Seq.{sets}
use Rattle.text.proofs.Laws.{sets_out}
use Rattle.text.proofs.Fields.{until_within}
use Rattle.text.proofs.Read.{field_read, field_wrong}
use Rattle.text.proofs.Signed.{i32_back}
use Rattle.frame.specs.Fields.{fields, read_fields}
use Rattle.frame.proofs.Placed.{placed_texts}
use Rattle.frame.proofs.Spaced.{some_left}
use Rattle.commands.specs.Request.{row_of}
use Rattle.numbers.specs.Ranges.{count_of}
use Rattle.numbers.specs.Numbers.{read_field}
use Rattle.numbers.proofs.numbers.read_numbers.Invariants.{filled, form, answer, lacking, unread, read, too_many, all_read}
use Rattle.numbers.proofs.numbers.read_numbers.Goals as goal

abbrev zeros : List ℤ
zeros = pos 0 ∷ pos 0 ∷ pos 0 ∷ pos 0 ∷ []

row_filled : (vs : List ℤ) → row_of vs ≡ row_of (sets zeros 0 vs)
row_filled [] = refl
row_filled (x ∷ []) = refl
row_filled (x ∷ y ∷ []) = refl
row_filled (x ∷ y ∷ z ∷ []) = refl
row_filled (x ∷ y ∷ z ∷ w ∷ vs) = rw (sets_out (x ∷ y ∷ z ∷ w ∷ []) 4 vs (omega arith))

all_filled : (o : Option (List ℤ)) → option_map row_of o ≡ filled zeros 0 o
unfolding filled
all_filled (Some vs) = ap Some (row_filled vs)
all_filled None = refl

pub loop-i-init : goal.loop-i-init
unfolding answer form
loop-i-init c =
    let s = c.args.from.text.now in let from = c.args.from.index in
    record {
      rest =
          rw (sub-zero, c.count_of-i-end.ensures, some_left s from c.args.from.in_bounds, placed_texts from (drop from s), all_filled (read_fields (read_field c.args.kind) (count_of c.args.kind) (fields (drop from s))));
    }

pub returns-then-text-next : goal.returns-then-text-next
returns-then-text-next c =
    lacking c.loop-i.invariant c.loop-i-test.true c.if-text-next.true

pub returns-in_err-field : goal.returns-in_err-field
returns-in_err-field c =
    let p = err_from_is_err_and c.from_residual.result c.from_residual.ensures.1 in
    let w = field_wrong (read_field c.args.kind) c.args.from.text.now c.loop-i.next c.in_err-field.ensures in
    rw (p.1, p.2, w.1) (unread c.loop-i.invariant c.loop-i-test.true c.if-text-next.false w.0)

pub overflow_add-next : goal.overflow_add-next
overflow_add-next c =
    let s = c.args.from.text.now in
    let e : c.in_ok-field.field.end ≤ length s =
    omega (arith, (field_read (read_field c.args.kind) s c.loop-i.next c.in_ok-field.ensures).1, until_within (λ b. eqb b 32) (drop c.loop-i.next s), length-drop c.loop-i.next s, c.if-text-next.false) in
    search rules

pub loop-i-preserved : goal.loop-i-preserved
loop-i-preserved c =
    let w = field_read (read_field c.args.kind) c.args.from.text.now c.loop-i.next c.in_ok-field.ensures in
    record {
      rest =
          read c.loop-i.invariant c.loop-i-test.true c.if-text-next.false w.0
          ∙ rw (i32_back c.in_ok-field.field.value (omega arith), w.1);
    }

pub returns-then-next-text : goal.returns-then-next-text
returns-then-next-text c =
    too_many c.loop-i.invariant c.loop-i-test.false c.if-next-text.true

pub returns : goal.returns
returns c =
    rw c.from.ensures (all_read c.loop-i.invariant c.loop-i-test.false c.if-next-text.false)
