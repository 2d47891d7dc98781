-- The shape of the tables: how many rows each has, and how long they are.
use Rattle.std.specs.Prelude.{ℕ, ◌<◌, ◌≡◌, List, [], length, get_or}
use Rattle.tables.specs.Tables.{Tables, EachField}
use Rattle.model.specs.Call.{Call}
use Rattle.model.specs.Box.{setup, run}

-- a row of n places for each of the four slots
pub record Rows {A : Type 0} (n : ℕ) (t : List (List A)) : Type 0 where
  pub slots : length t ≡ 4
  pub row : (k : ℕ) → k < 4 → length (get_or t k []) ≡ n

pub record Shaped (t : Tables) : Type 0 where
  pub timers : Rows 16 t.timers
  pub registers : Rows 64 t.registers
  pub rows : EachField (Rows 100) t.rows
  pub inputs : Rows 32 t.inputs
  pub outputs : Rows 32 t.outputs
  pub memory : Rows 16 t.memory
  pub on : length t.on ≡ 4

-- after any setup and any list of calls the tables have that shape (proved in proofs/Isolation.antt)
abbrev pub AlwaysShaped : Type 0
AlwaysShaped = (want m : List ℕ) (cs : List Call) → Shaped (run (setup want m) cs).tables
