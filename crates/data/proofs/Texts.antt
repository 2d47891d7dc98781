-- The texts of data: their bytes, their length, and that data in range read back from them.
use Prim.Native.Nat.{ℕ, ◌-◌, ◌*◌, ◌≤◌}
use mathlib.Core.Path.{◌≡◌, refl, ap}
use mathlib.Core.Bool.{true}
use mathlib.Core.List.{[]}
use Rattle.std.specs.Prelude.{None, Some, option_map}
use native.Mathlib.Omega.{arith}
use lib.ListN.{length}
use Rattle.text.proofs.Laws.{Skips}
use Rattle.frame.specs.Fields.{fields, read_fields, offending}
use Rattle.frame.specs.Frame.{is_stray}
use Rattle.frame.proofs.Placed.{offending_lack}
use Rattle.steps.specs.Step.{read_step}
use Rattle.steps.proofs.Back.{step_clean, step_length, step_reads_back}
use Rattle.commands.specs.declared.table.Form.{Form}
use Rattle.commands.specs.declared.table.Form.TheVariants.{Numbers, Texts}
use Rattle.commands.specs.declared.request.Payload.{Payload}
use Rattle.commands.specs.declared.request.Payload.TheVariants as payload
use Rattle.commands.specs.Request.{row_in, step_in}
use Rattle.numbers.specs.Ranges.{count_of}
use Rattle.numbers.proofs.Bounds.{some_value, few_values}
use Rattle.numbers.proofs.Texts as numbers
use Rattle.numbers.proofs.Where.{false_true}
use Rattle.data.specs.Data.{read_data, data_forms, data_text}
use Rattle.data.specs.Ranges.{in_ranges}

-- no byte of data is stray
pub data_clean : (f : Form) (p : Payload) → Skips is_stray (data_text f p)
data_clean (Numbers k) p = numbers.numbers_clean k (row_in p)
data_clean Texts p = step_clean (step_in p)

-- at most 8 bytes for each field, and an SP between each two
abbrev pub most_bytes : Form → ℕ
most_bytes (Numbers k) = 9 * count_of k - 1
most_bytes Texts = 44

pub most_bytes_lem : (f : Form) → most_bytes f ≤ 44
most_bytes_lem (Numbers k) = omega (arith, few_values k)
most_bytes_lem Texts = omega arith

pub data_length : (f : Form) (p : Payload) → length (data_text f p) ≤ most_bytes f
data_length (Numbers k) p = omega (arith, (numbers.numbers_length k (row_in p)).1)
data_length Texts p = step_length (step_in p)

-- without a field there are no data
pub no_fields : (etx : ℕ) (f : Form) → (offending etx (data_forms f) [] ≡ etx) × (read_data f [] ≡ None)
unfolding read_fields read_step
no_fields etx (Numbers k) = rw (some_value k).1 (offending_lack etx _ _, refl)
no_fields etx Texts = (offending_lack etx _ _, refl)

-- what a text of data keeps of them: the numbers of their kind, or the texts
abbrev pub kept : Form → Payload → Payload
kept (Numbers k) p = payload.Numbers (numbers.kept k (row_in p))
kept Texts p = payload.Texts (step_in p)

-- data in range read back
pub data_back : (f : Form) (p : Payload) → in_ranges f p ≡ true → read_data f (fields (data_text f p)) ≡ Some (kept f p)
data_back f payload.None e = false_true e
data_back (Numbers k) (payload.Numbers r) e = ap (option_map payload.Numbers) (numbers.numbers_back k r e)
data_back Texts (payload.Numbers r) e = false_true e
data_back (Numbers k) (payload.Texts s) e = false_true e
data_back Texts (payload.Texts s) e = ap (option_map payload.Texts) (step_reads_back s e)
