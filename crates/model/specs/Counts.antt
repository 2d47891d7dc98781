-- The number of outputs that are on, kept beside the output ports (document 02, E7).
use Rattle.std.specs.Prelude.{ℕ, ◌≤◌, ◌<◌, ◌≡◌, List, [], get_or}
use Rattle.ports.specs.On.{signals_on}
use Rattle.tables.specs.Tables.{Tables}
use Rattle.model.specs.Call.{Call}
use Rattle.model.specs.Box.{setup, run}

-- the number kept for slot k
pub record TrueCount (t : Tables) (k : ℕ) : Type 0 where
  -- it is the ones counted over the 32 output ports
  pub count : get_or t.on k 0 ≡ signals_on 32 (get_or t.outputs k [])
  -- there are 256 outputs
  pub most : get_or t.on k 0 ≤ 256

-- after any setup and any list of calls, for each slot (proved in proofs/Isolation.antt)
abbrev pub AlwaysCounted : Type 0
AlwaysCounted = (want m : List ℕ) (cs : List Call) (k : ℕ) → k < 4 → TrueCount (run (setup want m) cs).tables k
