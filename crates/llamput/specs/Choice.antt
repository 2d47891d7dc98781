-- What the exported chooser promises: the pick, the part that it hands back told by its length.
use Rattle.std.specs.Prelude.{ℕ, ◌≡◌, length, Result}
use Rattle.refusals.specs.declared.refusal.Refusal.{Refusal}
use Rattle.refusals.specs.Refusal.{refusal_number}
use Rattle.chooser.specs.declared.choose.Choice as chooser
use Rattle.chooser.specs.Turn.{Pick, port_in, part_in}
use Rattle.llamput.specs.declared.choose.Choice.{Choice}

-- what the chooser answers, by numbers
abbrev pub told : Result chooser.Choice Refusal → Choice
told r = record { number = refusal_number r; port = port_in r; length = length (part_in r) }

pub record Chosen (p : Pick) (r : Choice) (turn : ℕ) : Type 0 where
  pub number_is : r.number ≡ p.number
  pub port_is : r.port ≡ p.port
  pub length_is : r.length ≡ length p.part
  pub turn_is : turn ≡ p.turn
