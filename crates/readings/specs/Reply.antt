-- A reply read, with its numbers as doubles (document 02, E10): reading a reply, followed by the conversion.
use Rattle.std.specs.Prelude.{ℕ, Option, None, Some, Result, Ok, Err, option_map}
use Rattle.refusals.specs.declared.refusal.Refused.{Refused}
use Rattle.refusals.specs.Refusal.{number_of}
use Rattle.harl.specs.Message.{ReplyReading}
use Rattle.readings.specs.declared.convert.Converted.{Converted}
use Rattle.readings.specs.Convert.{convert_outcome}

-- what it hands back: the refusal number, 0 for none; the position where the slice is wrong, 0 where there is none to
-- tell; what the reply carries, converted, none where refused
pub record ConvertedReading : Type 0 where
  pub number : ℕ
  pub position : ℕ
  pub carries : Option Converted

-- accepted
abbrev pub accepted : Converted → ConvertedReading
accepted c = record { number = 0; position = 0; carries = Some c }

-- refused: the number and the position
abbrev pub refused : ℕ → ℕ → ConvertedReading
refused n p = record { number = n; position = p; carries = None }

-- the number and the position of reading a reply, and what it carries converted
abbrev pub converted : ReplyReading → ConvertedReading
converted r = record { number = r.number; position = r.position; carries = option_map convert_outcome r.outcome }

-- the number, the position and the values of each case of the code's answer
abbrev pub read_values : Result Converted Refused → ConvertedReading
read_values (Ok c) = accepted c
read_values (Err e) = refused (number_of e.refusal) e.position
