-- The calls of the box and their answers.
use Rattle.std.specs.Prelude.{ℕ, List, [], ◌∷◌}

-- serve: a slice, and the length of the reply area; input: a slot, an input port and a byte; outputs_on: a slot, of which it is
-- asked how many outputs are on (document 02, E7)
pub data Call : Type 0 where
  serve : List ℕ → ℕ → Call
  input : ℕ → ℕ → ℕ → Call
  outputs_on : ℕ → Call

-- the refusal number, 0 for none; the position where the slice is wrong (document 02, E9), 0 where there is none to tell;
-- and the reply: the bytes of a frame, or the one number that was asked for; nothing where there is no reply
pub record Answer : Type 0 where
  pub number : ℕ
  pub position : ℕ
  pub reply : List ℕ

-- no reply: the number and the position
abbrev pub no_reply : ℕ → ℕ → Answer
no_reply n p = record { number = n; position = p; reply = [] }

-- a number as the reply
abbrev pub the_count : ℕ → Answer
the_count n = record { number = 0; position = 0; reply = n ∷ [] }
