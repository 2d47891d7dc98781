-- The ranges of what the tables hold.
use Rattle.std.specs.Prelude.{ℕ, ◌≡◌, Bool, true, ◌&&◌, List, [], ◌∷◌, leb, pos}
use Rattle.commands.specs.declared.table.Kind.TheVariants as kind
use Rattle.numbers.specs.Ranges.{in_range}
use Rattle.tables.specs.Tables.{Tables, EachField, at2, atz2}
use Rattle.model.specs.Call.{Call, serve, input, outputs_on}
use Rattle.model.specs.Box.{setup, run}

-- every value is in its kind's range; a place outside a table reads as 0, which every range has
pub record InRange (t : Tables) : Type 0 where
  pub timers : (k n : ℕ) → in_range kind.Timer (pos (at2 t.timers k n)) ≡ true
  pub registers : (k n : ℕ) → in_range kind.Register (pos (at2 t.registers k n)) ≡ true
  pub rows : EachField (λ c. (k n : ℕ) → in_range kind.Row (atz2 c k n) ≡ true) t.rows
  pub inputs : (k n : ℕ) → in_range kind.Port (pos (at2 t.inputs k n)) ≡ true
  pub outputs : (k n : ℕ) → in_range kind.Port (pos (at2 t.outputs k n)) ≡ true
  pub memory : (k n : ℕ) → in_range kind.Port (pos (at2 t.memory k n)) ≡ true

-- an input call brings a byte
unfoldable pub brings_byte : Call → Bool
brings_byte (serve slice room) = true
brings_byte (input k port byte) = leb byte 255
brings_byte (outputs_on k) = true

-- each input call of a list
unfoldable pub bring_bytes : List Call → Bool
bring_bytes [] = true
bring_bytes (c ∷ cs) = brings_byte c && bring_bytes cs

-- after any setup and any list of calls that bring bytes every table is in range (proved in proofs/Ranges.antt)
abbrev pub AlwaysInRange : Type 0
AlwaysInRange = (want m : List ℕ) (cs : List Call) → bring_bytes cs ≡ true → InRange (run (setup want m) cs).tables
