-- What the functions below `serve` promise: the slot of a station, a body served on it, and an answer in two parts.
use Rattle.std.specs.Prelude.{ℕ, ◌≡◌, List, Option, None, Some}
use Rattle.frame.specs.Frame.{read_frame}
use Rattle.harl.specs.declared.message.Sent.{Sent}
use Rattle.bodies.specs.Body.{read_body}
use Rattle.harl.specs.Message.{Wrote}
use Rattle.tables.specs.Tables.{Tables}
use Rattle.gateway.specs.declared.serve.Told.{Told}
use Rattle.model.specs.Box.{box, Slot, nowhere, at, slot_of, decide_body, perform_tables, respond}
use Rattle.gateway.specs.Entries.{written}

abbrev pub as_found : Slot → Option ℕ
as_found nowhere = None
as_found (at k) = Some k

-- the slot of a station
abbrev pub found_in : List ℕ → ℕ → Option ℕ
found_in st s = as_found (slot_of st s)

-- the body of a slice that is addressed to slot k: the answer and every table
pub record BodyServed (k s : ℕ) (slice : List ℕ) (t : Tables) (before : List ℕ) (sent : Sent) (t' : Tables) (later : List ℕ) : Type 0 where
  pub answer_is : (st : List ℕ) → Wrote (written (respond (box st t) (decide_body slice k s (read_body (read_frame slice).body)))) before sent later
  pub tables_are : t' ≡ perform_tables t (decide_body slice k s (read_body (read_frame slice).body))

-- the answer of which the length was told apart
abbrev pub sent_of : Told → ℕ → Sent
sent_of r n = record { number = r.number; length = n; position = r.position }
