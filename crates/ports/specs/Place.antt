-- Where a signal stands (document 01, "Commands"): bit b of port p is signal first + 8p + b.
use Rattle.std.specs.Prelude.{ℕ, ◌-◌, ◌/◌, ◌%◌, List, get_or}
use Rattle.ports.specs.declared.place.Place.{Place}
use Rattle.ports.specs.Bits.{with_bit}

-- a bit of a port
pub record Spot : Type 0 where
  pub port : ℕ
  pub bit : ℕ

-- as the code has it
abbrev pub spot : Place → Spot
spot p = record { port = p.port; bit = p.bit }

-- the port and the bit of a signal
abbrev pub place_of : ℕ → ℕ → Spot
place_of first n = record { port = (n - first) / 8; bit = (n - first) % 8 }

-- the byte of a place's port, with v for the bit there
abbrev pub byte_with : List ℕ → Spot → ℕ → ℕ
byte_with ports s v = with_bit (get_or ports s.port 0) s.bit v
