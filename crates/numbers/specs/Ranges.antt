-- The values of numbers as data, and their ranges (document 01, "Commands"; for rows document 02, E6).
use Rattle.std.specs.Prelude.{ℕ, Bool, not, ◌&&◌, List, ℤ, pos, negsuc, take}
use Rattle.std.specs.Int.Signed.{lt_z}
use Rattle.std.specs.List.{list_all}
use Rattle.commands.specs.declared.table.Kind.{Kind}
use Rattle.commands.specs.declared.table.Kind.TheVariants as kind
use Rattle.commands.specs.declared.request.Row.{Row}
use Rattle.commands.specs.Request.{row_fields}
use Rattle.numbers.specs.declared.ranges.Limits.{Limits}

-- how many values the data of a kind are: the fields of a row, else one
abbrev pub count_of : Kind → ℕ
count_of kind.Timer = 1
count_of kind.Register = 1
count_of kind.Row = 4
count_of kind.Signal = 1
count_of kind.Port = 1

-- those values, in their order
abbrev pub values_of : Kind → Row → List ℤ
values_of k r = take (count_of k) (row_fields r)

-- the data ranges of the command table, hundredths for timers and rows
abbrev pub limits_of : Kind → Limits
limits_of kind.Timer = record { low = pos 0; high = pos 999 }
limits_of kind.Register = record { low = pos 0; high = pos 9999 }
limits_of kind.Row = record { low = negsuc 999998; high = pos 999999 }
limits_of kind.Signal = record { low = pos 0; high = pos 1 }
limits_of kind.Port = record { low = pos 0; high = pos 255 }

-- a value in its kind's range
unfoldable pub in_range : Kind → ℤ → Bool
in_range k v = not (lt_z v (limits_of k).low) && not (lt_z (limits_of k).high v)

-- each of these values
unfoldable pub each_in_range : Kind → List ℤ → Bool
each_in_range k vs = list_all (in_range k) vs

-- every value of the data
unfoldable pub all_in_range : Kind → Row → Bool
all_in_range k r = each_in_range k (values_of k r)
