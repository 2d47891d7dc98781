-- Data as text (document 01, "Commands"; for texts document 02, E3): numbers of a kind, or the texts of a step.
use Rattle.std.specs.Prelude.{ℕ, Bool, List, length, drop, Option, option_map, Ok, Err}
use Rattle.frame.specs.Fields.{fields, placed, offending}
use Rattle.text.specs.Read.{Read, read_at}
use Rattle.steps.specs.declared.step.Step.{Step}
use Rattle.steps.specs.Step.{read_step, step_forms, step_text}
use Rattle.commands.specs.declared.table.Form.{Form}
use Rattle.commands.specs.declared.table.Form.TheVariants.{Numbers, Texts}
use Rattle.commands.specs.declared.request.Payload.{Payload}
use Rattle.commands.specs.declared.request.Payload.TheVariants as payload
use Rattle.commands.specs.Request.{row_in, step_in}
use Rattle.numbers.specs.Numbers.{read_numbers, number_forms, number_ranges, numbers_text}
use Rattle.data.specs.declared.data.DataRead.{DataRead}
use Rattle.data.specs.declared.data.DataRead.TheVariants as read

-- the fields as data of a form; none where they are not
abbrev pub read_data : Form → List (List ℕ) → Option Payload
read_data (Numbers k) fs = option_map payload.Numbers (read_numbers k fs)
read_data Texts fs = option_map payload.Texts (read_step fs)

-- a test for each field of data (document 02, E9): that it is in its form
abbrev pub data_forms : Form → List (List ℕ → Bool)
data_forms (Numbers k) = number_forms k
data_forms Texts = step_forms

-- and that its value is in range, as every text is
abbrev pub data_ranges : Form → List (List ℕ → Bool)
data_ranges (Numbers k) = number_ranges k
data_ranges Texts = step_forms

-- the data that stand at an index of a text, which ETX follows
abbrev pub data_in : Form → List ℕ → ℕ → Read Payload
data_in f s i = read_at (offending (length s) (data_forms f) (placed i (drop i s))) (read_data f (fields (drop i s)))

-- what was read, with the texts that stand in the step
abbrev pub payload_with : Step → DataRead → Payload
payload_with s (read.Numbers r) = payload.Numbers r
payload_with s read.Texts = payload.Texts s

-- what the reader's answer says, with the texts that stand in the step
abbrev pub data_with : Step → Read DataRead → Read Payload
data_with s (Ok d) = Ok (payload_with s d)
data_with s (Err m) = Err m

-- the text of data
abbrev pub data_text : Form → Payload → List ℕ
data_text (Numbers k) p = numbers_text k (row_in p)
data_text Texts p = step_text (step_in p)
