-- What the exported reader of replies promises: the numbers that it returns, and those that it leaves in the lent areas.
use Rattle.std.specs.Prelude.{ℕ, ◌≡◌, List, Float}
use Rattle.untyped.specs.declared.read.Numbers.{Numbers}
use Rattle.llamput.specs.declared.reading.Reply.{Reply}

pub record Told (n : Numbers) (r : Reply) (kind : ℕ) (doubles : List Float) (step : List ℕ) : Type 0 where
  pub number_is : r.number ≡ n.number
  pub status_is : r.status ≡ n.status
  pub position_is : r.position ≡ n.position
  pub kind_is : kind ≡ n.kind
  pub doubles_are : doubles ≡ n.doubles
  pub step_is : step ≡ n.texts
