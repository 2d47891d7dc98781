-- A block of input taken, where part of the output may have been written on the way.
use Rattle.std.specs.Prelude.{ℕ, ◌≡◌, List}
use Rattle.stream.specs.Cell.{Cell, taken_all, preceded}

-- c is the state before and d after
pub record BlockTaken (c : Cell) (input : List ℕ) (d : Cell) : Type 0 where
  -- the output that was handed on to be written
  pub before : List ℕ
  -- the tables and the line are those of all bytes of the block, and what waits ends their output
  pub state_is : taken_all c input ≡ preceded before d
