-- What owned tables hold.
use Rattle.std.specs.Prelude.{ℕ, List, replicate, pos}
use Rattle.tables.specs.Tables.{tables}
use Rattle.tables.specs.Tables as held
use Rattle.owned.specs.declared.arrays.Tables.{Tables}

-- what the tables hold, with the memory of the START programs
abbrev pub owned : Tables → List ℕ → held.Tables
owned t m = tables t.timers t.registers t.x t.y t.z t.w t.inputs t.outputs t.memory t.on m

-- n in every row, register, timer and port, and as every number of outputs that are on
abbrev pub filled : ℕ → List ℕ → held.Tables
filled n m =
    tables (replicate 4 (replicate 16 n)) (replicate 4 (replicate 64 n))
    (replicate 4 (replicate 100 (pos n))) (replicate 4 (replicate 100 (pos n)))
    (replicate 4 (replicate 100 (pos n))) (replicate 4 (replicate 100 (pos n)))
    (replicate 4 (replicate 32 n)) (replicate 4 (replicate 32 n)) (replicate 4 (replicate 16 n)) (replicate 4 n)
    m
