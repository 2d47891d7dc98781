-- What reading a text comes to: a value, or the position where the text is wrong (document 02, E9).
use Rattle.std.specs.Prelude.{ℕ, List, Option, Result, option_map, ok_or}
use Rattle.text.specs.declared.field.Field.{Field}
use Rattle.text.specs.declared.field.Malformed.{Malformed}
use Rattle.text.specs.Scan.{field_at, end_at}

-- a value, or the position where the text is wrong
abbrev pub Read : Type 0 → Type 0
Read A = Result A Malformed

abbrev pub malformed : ℕ → Malformed
malformed p = record { position = p }

-- the answer for a text that stands at a position: a malformed one is reported there
abbrev pub read_at : {A : Type 0} → ℕ → Option A → Read A
read_at at o = ok_or o (malformed at)

-- a value, and where its field ends
abbrev pub field : {A : Type 0} → ℕ → A → Field A
field end a = record { value = a; end = end }

-- the field that stands at an index of a text as a value, with its end; None where it is not in its form
abbrev pub field_with : {A : Type 0} → (List ℕ → Option A) → List ℕ → ℕ → Option (Field A)
field_with read s i = option_map (field (end_at s i)) (read (field_at s i))

-- the same, and a malformed one is reported where it stands
abbrev pub read_field_at : {A : Type 0} → (List ℕ → Option A) → List ℕ → ℕ → Read (Field A)
read_field_at read s i = read_at i (field_with read s i)
