-- A reply read for a program without typed values: its request by a code, a number and data, and what it carries by
-- numbers.
use Rattle.std.specs.Prelude.{ℕ, cond, List, [], ◌∷◌, ℤ, eqb, slice_get, replicate, Float, Option, None, Some}
use Rattle.names.specs.declared.command.Command.{Command}
use Rattle.steps.specs.Step.{packed, step_from}
use Rattle.commands.specs.declared.table.Form.{Form}
use Rattle.commands.specs.declared.table.Form.TheVariants as form
use Rattle.commands.specs.declared.request.Row.{Row}
use Rattle.commands.specs.declared.request.Payload.{Payload}
use Rattle.commands.specs.declared.request.Payload.TheVariants as payload
use Rattle.names.specs.Command.{commands}
use Rattle.commands.specs.Table.{rule_of}
use Rattle.commands.specs.Request.{row_of, builds}
use Rattle.harl.specs.Message.{no_station, read_reply}
use Rattle.replies.specs.declared.reply.Data.TheVariants as held
use Rattle.replies.specs.declared.reply.Outcome.{Outcome}
use Rattle.replies.specs.declared.reply.Outcome.TheVariants as outcome
use Rattle.readings.specs.declared.convert.Reading.TheVariants as reading
use Rattle.readings.specs.declared.convert.Converted.{Converted}
use Rattle.readings.specs.declared.convert.Converted.TheVariants as converted
use Rattle.untyped.specs.declared.read.Numbers.{Numbers}
use Rattle.readings.specs.Double.{zero as plusZero}
use Rattle.readings.specs.Convert.{convert_outcome}
use Rattle.readings.specs.Reply.{ConvertedReading, refused, converted as convertedReply}

-- ---- the request

abbrev pub payload_of : Form → List ℤ → List ℕ → Payload
payload_of (form.Numbers k) values texts = payload.Numbers (row_of values)
payload_of form.Texts values texts = payload.Texts (step_from texts)

-- the data of a command's request
abbrev pub payload_for : Command → List ℤ → List ℕ → Payload
payload_for c values texts = payload_of (rule_of c).form values texts

-- a command by its code, its place in the list of commands
abbrev pub command_at : ℕ → Option Command
command_at n = slice_get commands n

-- 9 COMMAND for a code that is no command's, after 7 STATION
abbrev pub read_as : List ℕ → ℕ → ℕ → List ℤ → List ℕ → Option Command → ConvertedReading
read_as s station number values texts (Some c) = convertedReply (read_reply s station (builds c number (payload_for c values texts)))
read_as s station number values texts None = refused (cond (no_station station) 7 9) 0

-- the reply to the request of a code
abbrev pub read_coded : List ℕ → ℕ → ℕ → ℕ → List ℤ → List ℕ → ConvertedReading
read_coded s station code number values texts = read_as s station number values texts (command_at code)

-- ---- what the reply carries

-- one double, and zeros
abbrev pub single : Float → List Float
single d = d ∷ plusZero ∷ plusZero ∷ plusZero ∷ []

-- what an accepted reply carries: its kind; a status, doubles and texts
abbrev pub carrying : ℕ → ℕ → List Float → List ℕ → Numbers
carrying kind status doubles texts =
    record { number = 0; position = 0; kind = kind; status = status; doubles = doubles; texts = texts }

-- the kinds: 1 seconds, 2 millimetres, 3 a count, 4 a status, 5 a step
abbrev pub carried_by : Converted → Numbers
carried_by (converted.Reading (reading.Seconds d)) = carrying 1 0 (single d) (replicate 5 0)
carried_by (converted.Reading (reading.Millimetres m)) = carrying 2 0 (m.x ∷ m.y ∷ m.z ∷ m.w ∷ []) (replicate 5 0)
carried_by (converted.Reading (reading.Count d)) = carrying 3 0 (single d) (replicate 5 0)
carried_by (converted.Status n) = carrying 4 n (replicate 4 plusZero) (replicate 5 0)
carried_by (converted.Step n s) = carrying 5 0 (replicate 4 plusZero) (packed s)

-- of a refusal: its number and its position, and zeros
abbrev pub refused_with : ℕ → ℕ → Numbers
refused_with n p =
    record { number = n; position = p; kind = 0; status = 0; doubles = replicate 4 plusZero; texts = replicate 5 0 }

abbrev pub numbers_in : ℕ → ℕ → Option Converted → Numbers
numbers_in n p (Some c) = carried_by c
numbers_in n p None = refused_with n p

abbrev pub numbers_of : ConvertedReading → Numbers
numbers_of r = numbers_in r.number r.position r.carries

-- ---- data by their kind

abbrev pub outcome_for : ℕ → Row → Outcome
outcome_for kind r =
    cond (eqb kind 1) (outcome.Data (held.Timer r.x))
    (cond (eqb kind 2) (outcome.Data (held.Row r))
    (cond (eqb kind 3) (outcome.Data (held.Register r.x)) (outcome.Status 0)))

-- their doubles; zeros for a kind without one
abbrev pub doubles_for : ℕ → List ℤ → List Float
doubles_for kind values = (carried_by (convert_outcome (outcome_for kind (row_of values)))).doubles
