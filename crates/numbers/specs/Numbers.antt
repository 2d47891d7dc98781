-- Data as text (document 01, "Commands"; for rows document 02, E6): as many fields as values, parted by one SP each.
use Rattle.std.specs.Prelude.{ℕ, ◌%◌, Bool, true, List, map, ℤ, pos, nat_abs, length, drop, replicate, Option, option_map}
use Rattle.text.specs.Whole.{read_whole, shortest, padded}
use Rattle.text.specs.Hundredths.{read_hundredths, hundredths_text}
use Rattle.text.specs.declared.field.Field.{Field}
use Rattle.text.specs.Read.{Read, read_at, field_with}
use Rattle.frame.specs.Fields.{fields, placed, read_fields, reads_as, spaced, offending}
use Rattle.commands.specs.declared.table.Kind.{Kind}
use Rattle.commands.specs.declared.table.Kind.TheVariants as kind
use Rattle.commands.specs.declared.request.Row.{Row}
use Rattle.commands.specs.Request.{row_of}
use Rattle.numbers.specs.Ranges.{count_of, values_of, in_range}

-- ---- one field

abbrev pub read_whole_field : List ℕ → Option ℤ
read_whole_field s = option_map pos (read_whole s)

-- timers and rows are hundredths, all else are whole numbers; none for a text in another form
abbrev pub read_field : Kind → List ℕ → Option ℤ
read_field kind.Timer = read_hundredths
read_field kind.Row = read_hundredths
read_field kind.Register = read_whole_field
read_field kind.Signal = read_whole_field
read_field kind.Port = read_whole_field

-- the field that stands at an index as a value of a kind; a malformed one is reported where it stands
abbrev pub field_in : Kind → List ℕ → ℕ → Read (Field ℤ)
field_in k s i = read_at i (field_with (read_field k) s i)

-- the digits of a whole value, which has at most 4
abbrev pub digits_of : ℤ → ℕ
digits_of v = nat_abs v % 10000

-- register data with 4 digits, signals and ports shortest
abbrev pub field_text : Kind → ℤ → List ℕ
field_text kind.Timer v = hundredths_text v
field_text kind.Register v = padded (digits_of v)
field_text kind.Row v = hundredths_text v
field_text kind.Signal v = shortest (digits_of v)
field_text kind.Port v = shortest (digits_of v)

-- ---- reading

-- the fields as data of a kind
abbrev pub read_numbers : Kind → List (List ℕ) → Option Row
read_numbers k fs = option_map row_of (read_fields (read_field k) (count_of k) fs)

-- ---- where data are wrong (document 02, E9)

-- a test for each field of data: that it is in its form, and that its value is in range
abbrev pub number_forms : Kind → List (List ℕ → Bool)
number_forms k = replicate (count_of k) (λ f. reads_as (λ v. true) (read_field k f))

abbrev pub number_ranges : Kind → List (List ℕ → Bool)
number_ranges k = replicate (count_of k) (λ f. reads_as (in_range k) (read_field k f))

-- the numbers that stand at an index of a text, which ETX follows
abbrev pub numbers_at : Kind → List ℕ → ℕ → Read Row
numbers_at k s i = read_at (offending (length s) (number_forms k) (placed i (drop i s))) (read_numbers k (fields (drop i s)))

-- ---- writing

-- the values of the data
unfoldable pub numbers_text : Kind → Row → List ℕ
numbers_text k r = spaced (map (field_text k) (values_of k r))
