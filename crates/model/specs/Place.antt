-- Where a served slice is wrong (document 02, E9): what holds of the position that the box answers, whatever the slice,
-- the room and the box (proved in proofs/Place.antt).
use Rattle.std.specs.Prelude.{ℕ, ◌≡◌, List}
use Rattle.harl.specs.Place.{Told}
use Rattle.model.specs.Call.{serve, input, outputs_on}
use Rattle.model.specs.Box.{Box, answer}

-- of a slice served
abbrev pub ServedTold : Type 0
ServedTold =
    (b : Box) (slice : List ℕ) (room : ℕ)
    → Told slice (answer b (serve slice room)).number (answer b (serve slice room)).position

-- an input call has no slice
abbrev pub InputsTold : Type 0
InputsTold = (b : Box) (k port byte : ℕ) → (answer b (input k port byte)).position ≡ 0

-- nor has a call that asks for the outputs that are on
abbrev pub CountsTold : Type 0
CountsTold = (b : Box) (k : ℕ) → (answer b (outputs_on k)).position ≡ 0
