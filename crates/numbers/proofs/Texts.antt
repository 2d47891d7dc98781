-- The texts of data, which requests and replies share: their bytes, their length, and that data in range read back from
-- them. Each law is over the list of values, whatever the kind.
use Prim.Native.Nat.{ℕ, suc, ◌+◌, ◌*◌, ◌≤◌, ◌<◌}
use mathlib.Core.Path.{◌≡◌, refl, sym, ap}
use mathlib.Core.Bool.{Bool, true, false}
use mathlib.Core.List.{List, [], ◌∷◌, map}
use Rattle.std.specs.Prelude.{Some, option_map}
use native.Mathlib.Omega.{arith}
use lib.Dec.{eqb}
use lib.IntN.{ℤ, pos, nat_abs}
use lib.ListN.{length, length-map, length-append}
use Rattle.text.specs.Whole.{read_whole, shortest}
use Rattle.text.specs.Hundredths.{read_hundredths, hundredths_text}
use Rattle.text.proofs.Laws.{Skips}
use Rattle.text.proofs.Digits.{shortest_skips, padded_skips, shortest_some, shortest_short, padded_length, read_shortest, read_padded}
use Rattle.text.proofs.Decimals.{text_some, text_short, hundredths_skips, read_hundredths_lem}
use Rattle.frame.specs.Fields.{fields, following, spaced}
use Rattle.frame.specs.Frame.{is_stray}
use Rattle.frame.proofs.Reading.{digit_clean, digit_solid}
use Rattle.frame.proofs.Spaced.{Each, each_map, spaced_skips, spaced_length, fields_spaced, fields_back}
use Rattle.commands.specs.declared.table.Kind.{Kind}
use Rattle.commands.specs.declared.table.Kind.TheVariants as kind
use Rattle.commands.specs.declared.request.Row.{Row}
use Rattle.commands.specs.Request.{row_of}
use Rattle.numbers.specs.Ranges.{count_of, values_of, limits_of, in_range, each_in_range, all_in_range}
use Rattle.numbers.specs.Numbers.{read_whole_field, read_field, digits_of, field_text, read_numbers, numbers_text}
use Rattle.numbers.proofs.Bounds.{in_digits, in_nat, in_small, some_value, head_in, tail_in}

-- ---- one field

-- a search for what stands in no data passes over it
module _ (test : ℕ → Bool) (none : (d : ℕ) → d < 10 → test (d + 48) ≡ false) (point : test 46 ≡ false) (minus : test 45 ≡ false) where
  field_skips : (k : Kind) (v : ℤ) → Skips test (field_text k v)
  field_skips kind.Timer v = hundredths_skips test none point minus v
  field_skips kind.Register v = padded_skips test none (digits_of v)
  field_skips kind.Row v = hundredths_skips test none point minus v
  field_skips kind.Signal v = shortest_skips test none (digits_of v)
  field_skips kind.Port v = shortest_skips test none (digits_of v)

pub field_length : (k : Kind) (v : ℤ) → (1 ≤ length (field_text k v)) × (length (field_text k v) ≤ 8)
field_length kind.Timer v = (text_some v, text_short v)
field_length kind.Register v = (omega (arith, padded_length (digits_of v)), omega (arith, padded_length (digits_of v)))
field_length kind.Row v = (text_some v, text_short v)
field_length kind.Signal v = (shortest_some (digits_of v), omega (arith, shortest_short (digits_of v)))
field_length kind.Port v = (shortest_some (digits_of v), omega (arith, shortest_short (digits_of v)))

-- no SP stands in it
field_solid : (k : Kind) (v : ℤ) → Skips (λ b. eqb b 32) (field_text k v)
field_solid = field_skips (λ b. eqb b 32) digit_solid refl refl

pub shortest_solid : (v : ℕ) → Skips (λ b. eqb b 32) (shortest v)
shortest_solid = shortest_skips (λ b. eqb b 32) digit_solid

hundredths_back : (k : Kind) (v : ℤ) → in_range k v ≡ true → read_hundredths (hundredths_text v) ≡ Some v
hundredths_back k v e = read_hundredths_lem v (in_small k v e)

-- a whole number, in either form
whole_back : (k : Kind) (s : List ℕ) (v : ℤ) → (limits_of k).low ≡ pos 0 → in_range k v ≡ true → (digits_of v < 10000 → read_whole s ≡ Some (digits_of v)) → read_whole_field s ≡ Some v
whole_back k s v low e read =
    let h = in_digits k v low e in
    let d : digits_of v ≡ nat_abs v = omega arith in
    rw (read (omega arith), d) (ap Some (sym (in_nat k v low e)))

-- a value in range reads back
field_back : (k : Kind) (v : ℤ) → in_range k v ≡ true → read_field k (field_text k v) ≡ Some v
field_back kind.Timer v e = hundredths_back kind.Timer v e
field_back kind.Register v e = whole_back kind.Register _ v refl e (read_padded (digits_of v))
field_back kind.Row v e = hundredths_back kind.Row v e
field_back kind.Signal v e = whole_back kind.Signal _ v refl e (read_shortest (digits_of v))
field_back kind.Port v e = whole_back kind.Port _ v refl e (read_shortest (digits_of v))

-- and so do values in range
values_back : (k : Kind) (vs : List ℤ) → each_in_range k vs ≡ true → Each (λ v. read_field k (field_text k v) ≡ Some v) vs
values_back k [] e = tt
values_back k (v ∷ vs) e = (field_back k v (head_in k v vs e), values_back k vs (tail_in k v vs e))

-- ---- data

-- the values are as many as the kind has
count_values : (k : Kind) (r : Row) → length (values_of k r) ≡ count_of k
count_values kind.Timer r = refl
count_values kind.Register r = refl
count_values kind.Row r = refl
count_values kind.Signal r = refl
count_values kind.Port r = refl

pub numbers_skips : (test : ℕ → Bool) → ((d : ℕ) → d < 10 → test (d + 48) ≡ false) → test 46 ≡ false → test 45 ≡ false → test 32 ≡ false → (k : Kind) (r : Row) → Skips test (numbers_text k r)
unfolding numbers_text
numbers_skips test none point minus space k r =
    spaced_skips test space (map (field_text k) (values_of k r)) (each_map (Skips test) (field_text k) (field_skips test none point minus k) (values_of k r))

-- no byte of data is stray
pub numbers_clean : (k : Kind) (r : Row) → Skips is_stray (numbers_text k r)
numbers_clean = numbers_skips is_stray digit_clean refl refl refl

-- 8 bytes at most for each value, and an SP between each two
pub numbers_length : (k : Kind) (r : Row) → (1 ≤ length (numbers_text k r)) × (length (numbers_text k r) < 9 * count_of k)
unfolding numbers_text
numbers_length k r = go (values_of k r) (count_values k r) (some_value k).1
  where
    go : (vs : List ℤ) → length vs ≡ count_of k → count_of k ≡ suc (some_value k).0 → (1 ≤ length (spaced (map (field_text k) vs))) × (length (spaced (map (field_text k) vs)) < 9 * count_of k)
    go [] n p = absurd (omega arith)
    go (v ∷ vs) n p =
        let each = each_map (λ t. length t ≤ 8) (field_text k) (λ v. (field_length k v).1) (v ∷ vs) in (
          omega (arith, length-append (field_text k v) (following (map (field_text k) vs)), (field_length k v).0),
          omega (arith, spaced_length 8 (field_text k v) (map (field_text k) vs) each, length-map vs (field_text k)),
        )

-- what a text of data keeps of a row: the values of its kind
abbrev pub kept : Kind → Row → Row
kept k r = row_of (values_of k r)

-- data in range read back
pub numbers_back : (k : Kind) (r : Row) → all_in_range k r ≡ true → read_numbers k (fields (numbers_text k r)) ≡ Some (kept k r)
unfolding numbers_text all_in_range
numbers_back k r e = go (values_of k r) (count_values k r) (some_value k).1 e
  where
    go : (vs : List ℤ) → length vs ≡ count_of k → count_of k ≡ suc (some_value k).0 → each_in_range k vs ≡ true → read_numbers k (fields (spaced (map (field_text k) vs))) ≡ Some (row_of vs)
    go [] n p e = absurd (omega arith)
    go (v ∷ vs) n p e =
        let solid = each_map (Skips (λ b. eqb b 32)) (field_text k) (field_solid k) (v ∷ vs) in
        rw (fields_spaced (field_text k v) (map (field_text k) vs) solid, ← n)
        (ap (option_map row_of) (fields_back (read_field k) (field_text k) (v ∷ vs) (values_back k (v ∷ vs) e)))
