-- What serving the next of two ports promises: the pick is the chooser's, and the answer that of serving (document 02, E5).
use Rattle.std.specs.Prelude.{ℕ, ◌≡◌, List}
use Rattle.chooser.specs.Turn.{none, Buffers, pick}
use Rattle.harl.specs.declared.message.Sent.{Sent}
use Rattle.harl.specs.Message.{Wrote}
use Rattle.tables.specs.Tables.{Tables}
use Rattle.model.specs.Call.{no_reply}
use Rattle.model.specs.Box.{Box}
use Rattle.gateway.specs.Entries.{written, Served}
use Rattle.hosts.specs.declared.next.Next.{Next}

-- neither port waits: 17 IDLE with no reply, the area untouched, and every table as it was
pub record Idle (b : Box) (before : List ℕ) (sent : Sent) (t : Tables) (later : List ℕ) : Type 0 where
  pub answer_is : Wrote (written (no_reply 17 0)) before sent later
  pub tables_are : t ≡ b.tables

-- a call on the box and its turn, with what both ports hold and a reply area: what it returned, and the turn, the tables and the
-- area that it left
pub record NextServed (b : Box) (turn : ℕ) (h : Buffers) (before : List ℕ) (r : Next) (turn' : ℕ) (t : Tables) (later : List ℕ) : Type 0 where
  pub port_is : r.port ≡ (pick h turn).port
  pub turn_is : turn' ≡ (pick h turn).turn
  pub idle : (pick h turn).port ≡ none → Idle b before r.sent t later
  -- a port waits: what `serve` promises of the slice that the pick hands back
  pub served : ((pick h turn).port ≡ none → ⊥) → Served b (pick h turn).part before r.sent t later
