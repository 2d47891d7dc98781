-- Demand 3 on a line: what a program saw that handed each slice that `receive` handed out to `serve`, in that order, with input
-- calls and questions how many outputs are on between them (proved in proofs/History.antt).
use Rattle.std.specs.Prelude.{ℕ, ◌≡◌, List, [], ◌∷◌, map}
use Rattle.receiver.specs.Rule.{slices}
use Rattle.receiver.specs.Line as receiver
use Rattle.tables.specs.Tables.{Tables}
use Rattle.model.specs.Box.{box}
use Rattle.model.specs.Demand3.{Demand3}
use Rattle.model.specs.Addressed.{Fitted}
use Rattle.slots.specs.Entries.{SetUp}
use Rattle.gateway.specs.History.{Made, served, input_made, count_made, call_of, History, Alone}

-- the slices that were served
unfoldable pub slices_served : List Made → List (List ℕ)
slices_served [] = []
slices_served (served slice before sent t later ∷ ms) = slice ∷ slices_served ms
slices_served (input_made k port byte n t ∷ ms) = slices_served ms
slices_served (count_made k r ∷ ms) = slices_served ms

-- ms are the calls on the box that setup left, cs the calls of `receive`
pub record OnLine (want p st : List ℕ) (t : Tables) (ms : List Made) (cs : List receiver.Made) : Type 0 where
  -- the slices served are those of the bytes taken as one line, however they were cut
  pub slices_are : slices_served ms ≡ slices (receiver.line cs)
  -- the calls are a list that demand 3 is about
  pub demand3 : Demand3 want p (map call_of ms)
  -- and so are each fitted arm's tables, steps and answers, as the program saw them
  pub alone : (k : ℕ) → Fitted k st → Alone (box st t) k ms

abbrev pub LineIsolated : Type 0
LineIsolated =
    (want p : List ℕ) (number : ℕ) (st : List ℕ) (turn : ℕ) (t : Tables) (ms : List Made) (m : List ℕ) (cs : List receiver.Made)
    → SetUp want p number st turn t → History (box st t) ms
    → receiver.History m 0 cs
    → slices_served ms ≡ receiver.handed cs
    → OnLine want p st t ms cs
