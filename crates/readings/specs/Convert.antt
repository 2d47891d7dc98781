-- What a reply carries, with its numbers as doubles (document 02, E10).
use Rattle.std.specs.Prelude.{ℤ}
use Rattle.commands.specs.declared.request.Row.{Row}
use Rattle.replies.specs.declared.reply.Data.{Data}
use Rattle.replies.specs.declared.reply.Data.TheVariants as held
use Rattle.replies.specs.declared.reply.Outcome.{Outcome}
use Rattle.replies.specs.declared.reply.Outcome.TheVariants as outcome
use Rattle.readings.specs.declared.convert.Millimetres.{Millimetres}
use Rattle.readings.specs.declared.convert.Reading.TheVariants as reading
use Rattle.readings.specs.declared.convert.Converted.{Converted}
use Rattle.readings.specs.declared.convert.Converted.TheVariants as converted
use Rattle.readings.specs.Double.{double, from_hundredths}

-- each field of a row alike
abbrev pub millimetres_of : Row → Millimetres
millimetres_of r =
    record { x = from_hundredths r.x; y = from_hundredths r.y; z = from_hundredths r.z; w = from_hundredths r.w }

-- a count is not divided
abbrev pub counted : ℤ → Converted
counted n = converted.Reading (reading.Count (double n))

-- seconds, a row of millimetres, or a count; the texts of a step stay as they are
abbrev pub convert_data : Data → Converted
convert_data (held.Timer n) = converted.Reading (reading.Seconds (from_hundredths n))
convert_data (held.Register n) = counted n
convert_data (held.Row r) = converted.Reading (reading.Millimetres (millimetres_of r))
convert_data (held.Signal n) = counted n
convert_data (held.Port n) = counted n
convert_data (held.Step n s) = converted.Step n s

-- a status stays as it is
abbrev pub convert_outcome : Outcome → Converted
convert_outcome (outcome.Data d) = convert_data d
convert_outcome (outcome.Status n) = converted.Status n
