-- The charts of signals (document 01, "Commands"), and the gateway's formula for them.
use Rattle.std.specs.Prelude.{ℕ, ◌+◌, ◌-◌, ◌*◌, ◌<◌, ◌≡◌, List, [], get_or}
use Rattle.ports.specs.Place.{place_of}

-- what a chart has for bit b of port p: a row for each port, highest bit first
abbrev pub entry : List (List ℕ) → ℕ → ℕ → ℕ
entry chart p b = get_or (get_or chart p []) (7 - b) 0

-- every bit of every port of a chart that starts with the signal `first`: bit b of port p is signal first + 8p + b, and
-- by the gateway's formula that signal stands at bit b of port p
pub record Charted (first ports : ℕ) (chart : List (List ℕ)) : Type 0 where
  pub rule : (p b : ℕ) → p < ports → b < 8 → entry chart p b ≡ first + p * 8 + b
  pub place : (p b : ℕ) → p < ports → b < 8 → place_of first (entry chart p b) ≡ record { port = p; bit = b }
