-- The tables that a call is lent, and that it hands back the same ones.
use Rattle.std.specs.Prelude.{ℕ, ◌≡◌, List}
use Rattle.tables.specs.declared.arms.Arms.{Arms}
use Rattle.tables.specs.Tables.{Tables, tables}

-- what the lent tables hold, with the memory of the START programs
abbrev pub tables_of : Arms → List ℕ → Tables
tables_of a m =
    tables a.timers.now a.registers.now a.x.now a.y.now a.z.now a.w.now a.inputs.now a.outputs.now a.memory.now a.on.now m

-- both are the same tables in memory, whatever they hold
pub record SameTables (a b : Arms) : Type 0 where
  pub timers : a.timers.ghost_name ≡ b.timers.ghost_name
  pub registers : a.registers.ghost_name ≡ b.registers.ghost_name
  pub x : a.x.ghost_name ≡ b.x.ghost_name
  pub y : a.y.ghost_name ≡ b.y.ghost_name
  pub z : a.z.ghost_name ≡ b.z.ghost_name
  pub w : a.w.ghost_name ≡ b.w.ghost_name
  pub inputs : a.inputs.ghost_name ≡ b.inputs.ghost_name
  pub outputs : a.outputs.ghost_name ≡ b.outputs.ghost_name
  pub memory : a.memory.ghost_name ≡ b.memory.ghost_name
  pub on : a.on.ghost_name ≡ b.on.ghost_name
