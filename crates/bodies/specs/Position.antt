-- Where the body of a slice is wrong (document 02, E9): the position of refusals 9 to 12, an offset in the slice.
use Rattle.std.specs.Prelude.{ℕ, ◌-◌, Bool, true, cond, not, List, [], ◌∷◌, eqb, length, drop, Option, None, Some, Result, Ok, Err, option_map}
use Rattle.text.specs.Read.{Read, read_at}
use Rattle.text.specs.Whole.{read_whole}
use Rattle.frame.specs.Fields.{fields, Placed, placed, reads_as, start_of, offending}
use Rattle.frame.specs.Frame.{inner}
use Rattle.refusals.specs.Refusal.{number_of}
use Rattle.names.specs.declared.command.Command.{Command}
use Rattle.commands.specs.declared.table.Rule.{Rule}
use Rattle.commands.specs.declared.request.Payload.{Payload}
use Rattle.commands.specs.declared.request.Payload.TheVariants as payload
use Rattle.commands.specs.declared.request.Store.TheVariants as store
use Rattle.commands.specs.declared.request.Request.{Request}
use Rattle.commands.specs.declared.request.Request.TheVariants as request
use Rattle.steps.specs.declared.step.Step.{Step}
use Rattle.names.specs.Command.{command_of}
use Rattle.commands.specs.Table.{rule_of}
use Rattle.data.specs.Ranges.{outside}
use Rattle.data.specs.declared.data.DataRead.{DataRead}
use Rattle.data.specs.declared.data.DataRead.TheVariants as read
use Rattle.data.specs.Data.{data_forms, data_ranges}
use Rattle.bodies.specs.declared.body.Shape.{Shape}
use Rattle.bodies.specs.declared.body.Parsed.{Parsed}
use Rattle.bodies.specs.declared.body.Parsed.TheVariants as parsed
use Rattle.bodies.specs.declared.body.RefusedBody.{RefusedBody}
use Rattle.bodies.specs.Body.{Judged, Accepted, Refused, given, read_shape}

-- a test for each field that a command expects after its name: that it is in its form, and that its value is in range
abbrev pub forms : Rule → List (List ℕ → Bool)
forms rule = (λ f. reads_as (λ n. true) (read_whole f)) ∷ cond rule.store (data_forms rule.form) []

abbrev pub ranges : Rule → List (List ℕ → Bool)
ranges rule = (λ f. reads_as (λ n. not (outside rule n)) (read_whole f)) ∷ cond rule.store (data_ranges rule.form) []

-- 10 is about forms, 11 and 12 are about ranges
abbrev pub after_name_position : ℕ → Option Command → List Placed → ℕ → ℕ
after_name_position etx (Some c) fs n = offending etx (cond (eqb n 10) (forms (rule_of c)) (ranges (rule_of c))) fs
after_name_position etx None fs n = etx

-- 9 is about the name
abbrev pub fields_position : ℕ → List Placed → ℕ → ℕ
fields_position etx [] n = etx
fields_position etx (name ∷ fs) n = cond (eqb n 9) name.position (after_name_position etx (command_of name.text) fs n)

-- where the body of a slice is wrong that is refused with n; the field before it is the station
unfoldable pub body_position : List ℕ → ℕ → ℕ
body_position s n = fields_position (length s - 2) (drop 1 (placed 1 (inner s))) n

-- ---- the answers of the code's readers

-- a number and data, with where the data start
abbrev pub started : ℕ → Option (ℕ × Payload) → Option (ℕ × (Payload × ℕ))
started start = option_map (λ p. (p.0, (p.1, start)))

-- the fields after the name that stand at an index of a text, which ETX follows
abbrev pub shape_in : Rule → List ℕ → ℕ → Read (ℕ × (Payload × ℕ))
shape_in rule s i =
    read_at
    (offending (length s) (forms rule) (placed i (drop i s)))
    (started (start_of (length s) (drop 1 (placed i (drop i s)))) (read_shape rule (fields (drop i s))))

-- the data that were read for an SN or an LN, with the texts that stand in the step
abbrev pub given_with : Bool → Step → DataRead → Payload
given_with store s (read.Numbers r) = given store r
given_with store s read.Texts = payload.Texts s

abbrev pub shape_of : Bool → Step → Shape → ℕ × (Payload × ℕ)
shape_of store s q = (q.number, (given_with store s q.data, q.start))

-- what the reader of fields says
abbrev pub shape_with : Bool → Step → Read Shape → Read (ℕ × (Payload × ℕ))
shape_with store s (Ok q) = Ok (shape_of store s q)
shape_with store s (Err m) = Err m

-- a body, and the position where it is wrong
abbrev pub refused_at : ℕ → Bool → ℕ → Judged × ℕ
refused_at n store position = (Refused n store, position)

abbrev pub judged_at : (ℕ → ℕ) → Judged → Judged × ℕ
judged_at position (Accepted r) = (Accepted r, 0)
judged_at position (Refused n store) = refused_at n store (position n)

-- what the reader of bodies says, with the texts that stand in the step
abbrev pub request_with : Step → Parsed → Request
request_with s (parsed.Request r) = r
request_with s (parsed.Step n) = request.Store (store.Step n s)

abbrev pub judged_with : Step → Result Parsed RefusedBody → Judged × ℕ
judged_with s (Ok p) = (Accepted (request_with s p), 0)
judged_with s (Err r) = refused_at (number_of r.refused.refusal) r.store r.refused.position
