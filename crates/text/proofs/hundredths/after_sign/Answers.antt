use Prim.Native.Nat.{ℕ, ◌+◌, ◌<◌}
use mathlib.Core.Path.{◌≡◌, refl}
use mathlib.Core.Bool.{not}
use mathlib.Core.List.{List}
use Rattle.std.specs.Prelude.{option_map}
use native.Mathlib.Omega.{arith}
use borrow.Author.Tests.{eq-eqb, ne_eqb}
use lib.Dec.{eqb}
use lib.ListN.{length, get_or}
use Rattle.text.specs.Scan.{field_at}
use Rattle.text.specs.Hundredths.{magnitude, signed, read_hundredths}
use Rattle.text.proofs.Fields.{field_cons, field_front, field_past}
use Rattle.text.proofs.hundredths.after_sign.Goals as goal
use Rattle.text.proofs.hundredths.after_sign.Goals.{else-from-via-then-from+else-from-eq45, else-from-via-else-from}

module _ (s : List ℕ) (i : ℕ) where
  minus : i < length s → get_or s i 0 ≡ 45 → read_hundredths (field_at s i) ≡ option_map (signed (not (eqb (i + 1) i))) (magnitude (field_at s (i + 1)))
  unfolding read_hundredths
  minus h e = rw (ne_eqb (i + 1) i (λ z. omega arith), (field_cons s i h (λ z. omega arith)).0, e)

  no_minus : (get_or (field_at s i) 0 0 ≡ 45 → ⊥) → read_hundredths (field_at s i) ≡ option_map (signed (not (eqb i i))) (magnitude (field_at s i))
  unfolding read_hundredths
  no_minus n = rw (eq-eqb i i refl, ne_eqb _ _ n)

pub returns-then-from-eq45-clause-from_value : goal.returns-then-from-eq45-clause-from_value
returns-then-from-eq45-clause-from_value c =
    minus c.args.from.text.now c.args.from.index c.if-from.true c.if-from-eq45.true

pub returns-then-from-eq45-clause-result_value : goal.returns-then-from-eq45-clause-result_value
returns-then-from-eq45-clause-result_value c =
    ((field_cons c.args.from.text.now c.args.from.index c.if-from.true (λ z. omega (arith, c.if-from-eq45.true, z))).1, refl)

pub returns-clause-from_value : goal.returns-clause-from_value
returns-clause-from_value c =
    no_minus c.args.from.text.now c.args.from.index
    (elim c.else-from.branch [
      | else-from-via-then-from+else-from-eq45 w ↦ field_front c.args.from.text.now c.args.from.index 45 (omega arith) w.if-from.true w.if-from-eq45.false
      | else-from-via-else-from w ↦ field_past c.args.from.text.now c.args.from.index 45 (omega arith) w.if-from.false
    ])
