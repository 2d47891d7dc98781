-- Store and load, over what is answered: the LN of an item answers what an SN or an input call last stored there,
-- every other item of every arm answers as before, and a signal answers its bit of what its port answers.
use Rattle.std.specs.Prelude.{ℕ, ◌-◌, ◌/◌, ◌%◌, ◌≤◌, ◌≡◌, true, List, get_or, pos}
use Rattle.commands.specs.declared.request.Load.{Load}
use Rattle.commands.specs.declared.request.Load.TheVariants as load
use Rattle.commands.specs.declared.request.Store.{Store}
use Rattle.commands.specs.declared.request.Store.TheVariants as store
use Rattle.commands.specs.declared.request.Request.TheVariants as request
use Rattle.commands.specs.Request.{port}
use Rattle.replies.specs.declared.reply.Data.{Data}
use Rattle.replies.specs.declared.reply.Data.TheVariants as held
use Rattle.replies.specs.declared.reply.Outcome.TheVariants as outcome
use Rattle.harl.specs.Message.{the_request, read_request, write_request, ReplyReading, the_outcome, read_reply}
use Rattle.ports.specs.Bits.{bit}
use Rattle.tables.specs.Tables.{read_by, LoadInRange, StoreInRange}
use Rattle.model.specs.Call.{Call, serve, input}
use Rattle.model.specs.Box.{Box, setup, after, answer, run}
use Rattle.model.specs.Addressed.{Fitted}
use Rattle.model.specs.Ranges.{bring_bytes}

-- ---- what is answered

-- the station of slot k
abbrev pub station_at : Box → ℕ → ℕ
station_at b k = get_or b.stations k 0

-- what slot k answers to an LN: it is written, served, and its reply is read
unfoldable pub told : Box → ℕ → Load → ReplyReading
told b k l =
    read_reply (answer b (serve (write_request 64 (station_at b k) (request.Load l)).bytes 64)).reply (station_at b k) (request.Load l)

-- it answers these data
abbrev pub replies : Data → ReplyReading
replies d = the_outcome (outcome.Data d)

-- ---- what is stored

-- sn: a slice, the length of the reply area, and the SN that the slice is read as; wired: an input port and a byte
pub data Write : Type 0 where
  sn : List ℕ → ℕ → Store → Write
  wired : ℕ → ℕ → Write

-- the call that brings it to slot k
abbrev pub call_to : ℕ → Write → Call
call_to k (sn slice room q) = serve slice room
call_to k (wired p v) = input k p v

-- an arm of station s accepts it: the reply has room and the slice reads as that SN to s; the port is one of 32 and v a byte
abbrev pub Accepts : ℕ → Write → Type 0
Accepts s (sn slice room q) = (64 ≤ room) × (read_request slice ≡ the_request s (request.Store q))
Accepts s (wired p v) = (p ≤ 31) × (v ≤ 255)

-- the data that an SN gives
abbrev pub data_in : Store → Data
data_in (store.Timer n v) = held.Timer v
data_in (store.Register n v) = held.Register v
data_in (store.Row n r) = held.Row r
data_in (store.Output g v) = held.Signal v
data_in (store.OutputPort p v) = held.Port v
data_in (store.MemoryBit g v) = held.Signal v
data_in (store.MemoryPort p v) = held.Port v
data_in (store.Step n s) = held.Step n s

-- the item of either write
abbrev pub item_of : Write → Load
item_of (sn slice room q) = read_by q
item_of (wired p v) = load.InputPort (port p)

-- the data of either write
abbrev pub given_by : Write → Data
given_by (sn slice room q) = data_in q
given_by (wired p v) = held.Port (pos v)

-- ---- signals and their ports

-- the port of a signal; any other item is its own
abbrev pub port_of : Load → Load
port_of (load.Timer n) = load.Timer n
port_of (load.Register n) = load.Register n
port_of (load.Row n) = load.Row n
port_of (load.Input g) = load.InputPort (port (g.0 / 8))
port_of (load.InputPort p) = load.InputPort p
port_of (load.Output g) = load.OutputPort (port (g.0 / 8))
port_of (load.OutputPort p) = load.OutputPort p
port_of (load.MemoryBit g) = load.MemoryPort (port ((g.0 - 256) / 8))
port_of (load.MemoryPort p) = load.MemoryPort p
port_of (load.Step n) = load.Step n

-- all of an item, or a bit of it
pub data View : Type 0 where
  entire : View
  bit_at : ℕ → View

-- a signal is a bit of its port, any other item all of itself
abbrev pub view_of : Load → View
view_of (load.Timer n) = entire
view_of (load.Register n) = entire
view_of (load.Row n) = entire
view_of (load.Input g) = bit_at (g.0 % 8)
view_of (load.InputPort p) = entire
view_of (load.Output g) = bit_at (g.0 % 8)
view_of (load.OutputPort p) = entire
view_of (load.MemoryBit g) = bit_at ((g.0 - 256) % 8)
view_of (load.MemoryPort p) = entire
view_of (load.Step n) = entire

-- m is another item than l: not l, not the port of l, and no signal of the port l
pub record Other (l m : Load) : Type 0 where
  pub not_item : l ≡ m → ⊥
  pub not_port : port_of l ≡ m → ⊥
  pub not_signal : l ≡ port_of m → ⊥

-- ---- the statement

-- slot k of box b
pub record Kept (b : Box) (k : ℕ) : Type 0 where
  -- every SN in range, written for this station, is accepted
  pub writable : (q : Store) → StoreInRange q
      → Accepts (station_at b k) (sn (write_request 64 (station_at b k) (request.Store q)).bytes 64 q)
  -- the LN of an item answers what was just stored there
  pub reads_back : (w : Write) → Accepts (station_at b k) w
      → told (after b (call_to k w)) k (item_of w) ≡ replies (given_by w)
  -- every other item of this arm, and every item of every other arm, answers as before
  pub others : (w : Write) → Accepts (station_at b k) w → (j : ℕ) → Fitted j b.stations
      → (l : Load) → (j ≡ k → Other (item_of w) l)
      → told (after b (call_to k w)) j l ≡ told b j l
  -- a port answers a byte, and each of its signals answers its bit of that byte
  pub bits : (l : Load) (n : ℕ) → view_of l ≡ bit_at n → LoadInRange l
      → (v : ℕ) × ((told b k (port_of l) ≡ replies (held.Port (pos v))) × (told b k l ≡ replies (held.Signal (pos (bit v n)))))

-- after any setup and any list of calls that bring bytes, for every fitted slot (proved in proofs/StoreLoad.antt)
abbrev pub StoreLoad : Type 0
StoreLoad =
    (want m : List ℕ) (cs : List Call) (k : ℕ)
    → bring_bytes cs ≡ true
    → Fitted k (setup want m).stations
    → Kept (run (setup want m) cs) k
