use Prim.Native.Nat.{ℕ, ◌+◌, ◌-◌, ◌<◌}
use mathlib.Core.Path.{◌≡◌, refl, ap, ◌∙◌}
use mathlib.Core.List.{List, ◌∷◌, ◌++◌}
use native.Mathlib.Omega.{arith}
use native.Mathlib.Numerals.{add-one}
use lib.IntN.{ℤ, pos}
use lib.ListN.{length, get_or, take, drop, length-append, drop_of_length-le}
use lib.Seq.{drop-cons}
use Rattle.text.proofs.Laws.{put_then}
use Rattle.text.proofs.Parts.{begun, moved, done}
use Rattle.text.proofs.Signed.{i32_back}
use Rattle.commands.specs.declared.table.Kind.{Kind}
use Rattle.commands.specs.declared.table.Kind.TheVariants as kind
use Rattle.commands.specs.declared.request.Row.{Row}
use Rattle.commands.specs.Request.{row_fields}
use Rattle.numbers.specs.Ranges.{count_of}
use Rattle.numbers.specs.Numbers.{field_text, numbers_text}
use Rattle.numbers.proofs.numbers.put_numbers.Invariants.{parted}
use Rattle.numbers.proofs.numbers.put_numbers.Goals as goal

-- the values behind the first one of vs, of which n are the data
abbrev behind : ℕ → List ℤ → List ℤ
behind n vs = take (n - 1) (drop 1 vs)

by_kind : (k : Kind) (r : Row) → numbers_text k r ≡ field_text k r.x ++ parted k (behind (count_of k) (row_fields r))
unfolding numbers_text
by_kind kind.Timer r = refl
by_kind kind.Register r = refl
by_kind kind.Row r = refl
by_kind kind.Signal r = refl
by_kind kind.Port r = refl

-- the first value, and those behind it
parts : (k : Kind) (r : Row) {vs : List ℤ} {n : ℕ} → vs ≡ row_fields r → n ≡ count_of k → numbers_text k r ≡ field_text k (get_or vs 0 (pos 0)) ++ parted k (behind n vs)
parts k r e d = rw (e, d) (by_kind k r)

next : (k : Kind) (vs : List ℤ) (i : ℕ) → i < length vs → parted k (drop i vs) ≡ (32 ∷ field_text k (get_or vs i (pos 0))) ++ parted k (drop (i + 1) vs)
next k vs i h = rw (add-one, drop-cons vs i (pos 0))

pub put_field-end-requires : goal.put_field-end-requires
put_field-end-requires c =
    let v = get_or c.into-values.result 0 (pos 0) in
    rw (i32_back v (omega arith))
    (omega (arith, ap length (parts c.args.kind c.args.row c.into-values.ensures refl), length-append {A = ℕ}))

pub loop-v-init : goal.loop-v-init
loop-v-init c =
    let v = get_or c.into-values.result 0 (pos 0) in
    moved (field_text c.args.kind v) (rw (parts c.args.kind c.args.row c.into-values.ensures c.count_of.ensures) begun)
    (rw (i32_back v (omega arith)) at c.put_field-end.ensures) c.put_field-end.auto.area

pub put_byte-from-requires : goal.put_byte-from-requires
put_byte-from-requires c =
    let e = next c.args.kind (behind c.count_of.result c.into-values.result) c.loop-v.v-index c.loop-v-test.true in
    omega (arith, ap length e)

pub put_field-end-requires-in-loop-v : goal.put_field-end-requires-in-loop-v
put_field-end-requires-in-loop-v c =
    let e = next c.args.kind (behind c.count_of.result c.into-values.result) c.loop-v.v-index c.loop-v-test.true in
    let v = get_or (behind c.count_of.result c.into-values.result) c.loop-v.v-index (pos 0) in
    rw (i32_back v (omega arith))
    (omega (arith, simp length-append at (ap length e)))

pub loop-v-preserved : goal.loop-v-preserved
loop-v-preserved c =
    let e = next c.args.kind (behind c.count_of.result c.into-values.result) c.loop-v.v-index c.loop-v-test.true in
    let v = get_or (behind c.count_of.result c.into-values.result) c.loop-v.v-index (pos 0) in
    moved (32 ∷ field_text c.args.kind v) (rw e at c.loop-v.invariant)
    (put_then c.put_byte-from.ensures (rw (i32_back v (omega arith)) at c.put_field-end-in-loop-v.ensures))
    (c.put_field-end-in-loop-v.auto.area ∙ c.put_byte-from.auto.area)

pub returns : goal.returns
returns c =
    let none = drop_of_length-le (behind c.count_of.result c.into-values.result) {i = c.loop-v.v-index} c.loop-v-test.false in
    done (rw none at c.loop-v.invariant)
