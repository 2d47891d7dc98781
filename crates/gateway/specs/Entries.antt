-- What serving promises: every answer is the model's.
use Rattle.std.specs.Prelude.{ℕ, ◌≡◌, List, length}
use Rattle.harl.specs.declared.message.Sent.{Sent}
use Rattle.harl.specs.Message.{Message, Wrote}
use Rattle.tables.specs.Tables.{Tables}
use Rattle.model.specs.Call.{serve, Answer}
use Rattle.model.specs.Box.{Box, after, answer}

-- an answer as what a writer gives
abbrev pub written : Answer → Message
written a = record { number = a.number; position = a.position; bytes = a.reply }

-- a serving call: the answer and every table
pub record Served (b : Box) (slice before : List ℕ) (sent : Sent) (t : Tables) (later : List ℕ) : Type 0 where
  pub answer_is : Wrote (written (answer b (serve slice (length before)))) before sent later
  pub tables_are : t ≡ (after b (serve slice (length before))).tables
