-- The ranges of numbers and data (document 01, refusals 11 and 12; for texts document 02, E3).
use Rattle.std.specs.Prelude.{ℕ, Bool, true, false, cond, ◌||◌, ltb}
use Rattle.steps.specs.declared.step.Step.{Step}
use Rattle.steps.specs.Step.{is_step}
use Rattle.commands.specs.declared.table.Form.{Form}
use Rattle.commands.specs.declared.table.Form.TheVariants.{Numbers, Texts}
use Rattle.commands.specs.declared.table.Rule.{Rule}
use Rattle.commands.specs.declared.request.Row.{Row}
use Rattle.commands.specs.declared.request.Payload.{Payload}
use Rattle.commands.specs.declared.request.Payload.TheVariants as payload
use Rattle.numbers.specs.Ranges.{all_in_range}

abbrev pub row_in_range : Form → Row → Bool
row_in_range (Numbers k) r = all_in_range k r
row_in_range Texts r = false

abbrev pub step_in_range : Form → Step → Bool
step_in_range (Numbers k) s = false
step_in_range Texts s = is_step s

-- data of the form, each number in range, each text a text with no gap before it
abbrev pub in_ranges : Form → Payload → Bool
in_ranges f payload.None = false
in_ranges f (payload.Numbers r) = row_in_range f r
in_ranges f (payload.Texts s) = step_in_range f s

-- a number outside its command's range
abbrev pub outside : Rule → ℕ → Bool
outside rule n = ltb n rule.first || ltb rule.last n

-- an LN gives no data, and an SN data that are in range
abbrev pub data_fit : Rule → Payload → Bool
data_fit rule p = cond rule.store (in_ranges rule.form p) true

-- 11 NUMBER, then 12 VALUE; 0 where neither is given
unfoldable pub judge : Rule → ℕ → Payload → ℕ
judge rule n p = cond (outside rule n) 11 (cond (data_fit rule p) 0 12)
