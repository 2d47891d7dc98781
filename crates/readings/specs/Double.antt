-- Whole numbers as doubles (document 02, E10), by the operations of IEEE 754 as the toolchain's library defines them.
use Rattle.std.specs.Prelude.{ℤ, Float}
use Rattle.std.specs.Float.{binary64}
use Rattle.std.specs.Float.Ieee.{div, of_int, of_bits}

-- a whole number made a double
abbrev pub double : ℤ → Float
double n = of_int binary64 n

-- plus zero, 0.0
abbrev pub zero : Float
zero = of_bits binary64 0

-- 100.0
abbrev pub hundred : Float
hundred = of_bits binary64 0x4059_0000_0000_0000

-- a whole number of hundredths, made a double and divided by 100 once
abbrev pub from_hundredths : ℤ → Float
from_hundredths n = div binary64 (double n) hundred
