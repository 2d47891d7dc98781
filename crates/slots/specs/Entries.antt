-- What the entries promise: every answer is the model's.
use Rattle.std.specs.Prelude.{ℕ, ◌≡◌, List, get_or, Result, Ok, Err}
use Rattle.refusals.specs.declared.refusal.Refusal.{Refusal}
use Rattle.refusals.specs.Refusal.{number_of}
use Rattle.chooser.specs.Turn.{fresh}
use Rattle.tables.specs.Tables.{Tables, with_on}
use Rattle.slots.specs.declared.count.Count.{Count}
use Rattle.model.specs.Call.{input, outputs_on, Answer}
use Rattle.model.specs.Setup.{setup_refusal}
use Rattle.model.specs.Box.{Box, box, setup, after, answer}

-- setup, of the station numbers and the memory as it is lent: the number, the stations, the turn and every table
pub record SetUp (want m : List ℕ) (number : ℕ) (st : List ℕ) (turn : ℕ) (t : Tables) : Type 0 where
  pub number_is : number ≡ setup_refusal want m
  pub stations_are : st ≡ (setup want m).stations
  pub turn_is : turn ≡ fresh
  pub tables_are : t ≡ (setup want m).tables

-- an input call: the number and every table
pub record InputSet (b : Box) (slot port byte : ℕ) (number : ℕ) (t : Tables) : Type 0 where
  pub number_is : number ≡ (answer b (input slot port byte)).number
  pub tables_are : t ≡ (after b (input slot port byte)).tables

-- an answer as the number of outputs that are on; 0 where there is no reply
abbrev pub as_count : Answer → Count
as_count a = record { number = a.number; count = get_or a.reply 0 0 }

-- the answer to a question, by numbers
abbrev pub counted : Result ℕ Refusal → Count
counted (Ok n) = record { number = 0; count = n }
counted (Err r) = record { number = number_of r; count = 0 }

-- a call that asks for that number: it is given the stations and the numbers kept, and its answer is the same whatever the other
-- tables hold
abbrev pub Counted : List ℕ → List ℕ → ℕ → Count → Type 0
Counted st on slot r = (t : Tables) → r ≡ as_count (answer (box st (with_on t on)) (outputs_on slot))
