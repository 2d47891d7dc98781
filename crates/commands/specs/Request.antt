-- Typed requests and their parts (document 01, "Commands"; for LNA and SNA document 02, E3).
use Rattle.std.specs.Prelude.{ℕ, List, [], ◌∷◌, ℤ, pos, get_or}
use Rattle.names.specs.declared.command.Command.{Command}
use Rattle.names.specs.declared.command.Command.TheVariants.{Lnt, Snt, Lnd, Snd, Lnl, Snl, Lnib, Lnob, Snob, Lnid, Lnod, Snod, Lnbb, Snbb, Lnbd, Snbd, Lna, Sna}
use Rattle.commands.specs.declared.request.Signal.{Signal}
use Rattle.commands.specs.declared.request.Port.{Port}
use Rattle.commands.specs.declared.request.Row.{Row}
use Rattle.commands.specs.declared.request.Load.{Load}
use Rattle.commands.specs.declared.request.Load.TheVariants as load
use Rattle.commands.specs.declared.request.Store.{Store}
use Rattle.commands.specs.declared.request.Store.TheVariants as store
use Rattle.commands.specs.declared.request.Request.{Request}
use Rattle.commands.specs.declared.request.Request.TheVariants as request
use Rattle.commands.specs.declared.request.Payload.{Payload}
use Rattle.commands.specs.declared.request.Payload.TheVariants as payload
use Rattle.commands.specs.declared.request.Parts.{Parts}
use Rattle.steps.specs.declared.step.Step.{Step}
use Rattle.steps.specs.Step.{step_from}

-- the fields of a row, in their order
abbrev pub row_fields : Row → List ℤ
row_fields r = r.x ∷ r.y ∷ r.z ∷ r.w ∷ []

-- the row of these fields, 0 where one is not given
abbrev pub row_of : List ℤ → Row
row_of vs = record { x = get_or vs 0 (pos 0); y = get_or vs 1 (pos 0); z = get_or vs 2 (pos 0); w = get_or vs 3 (pos 0) }

-- the data of every kind but a row
abbrev pub one : ℤ → Row
one v = row_of (v ∷ [])

-- the row that a payload holds, zeros where it holds none
abbrev pub row_in : Payload → Row
row_in (payload.Numbers r) = r
row_in (payload.Texts s) = one (pos 0)
row_in payload.None = one (pos 0)

-- a step without a text
abbrev pub no_step : Step
no_step = step_from []

-- the step that a payload holds, without a text where it holds none
abbrev pub step_in : Payload → Step
step_in (payload.Texts s) = s
step_in (payload.Numbers r) = no_step
step_in payload.None = no_step

abbrev pub bare_parts : Command → ℕ → Parts
bare_parts c n = record { command = c; number = n; payload = payload.None }

abbrev pub single_parts : Command → ℕ → ℤ → Parts
single_parts c n v = record { command = c; number = n; payload = payload.Numbers (one v) }

-- an LN carries no data
abbrev pub load_parts : Load → Parts
load_parts (load.Timer n) = bare_parts Lnt n
load_parts (load.Register n) = bare_parts Lnd n
load_parts (load.Row n) = bare_parts Lnl n
load_parts (load.Input s) = bare_parts Lnib s.0
load_parts (load.InputPort p) = bare_parts Lnid p.0
load_parts (load.Output s) = bare_parts Lnob s.0
load_parts (load.OutputPort p) = bare_parts Lnod p.0
load_parts (load.MemoryBit s) = bare_parts Lnbb s.0
load_parts (load.MemoryPort p) = bare_parts Lnbd p.0
load_parts (load.Step n) = bare_parts Lna n

abbrev pub store_parts : Store → Parts
store_parts (store.Timer n v) = single_parts Snt n v
store_parts (store.Register n v) = single_parts Snd n v
store_parts (store.Row n r) = record { command = Snl; number = n; payload = payload.Numbers r }
store_parts (store.Output s v) = single_parts Snob s.0 v
store_parts (store.OutputPort p v) = single_parts Snod p.0 v
store_parts (store.MemoryBit s v) = single_parts Snbb s.0 v
store_parts (store.MemoryPort p v) = single_parts Snbd p.0 v
store_parts (store.Step n s) = record { command = Sna; number = n; payload = payload.Texts s }

-- the command, the number and the data of a request
abbrev pub parts_of : Request → Parts
parts_of (request.Load l) = load_parts l
parts_of (request.Store s) = store_parts s

abbrev pub signal : ℕ → Signal
signal n = record { 0 = n }

abbrev pub port : ℕ → Port
port n = record { 0 = n }

-- a command with its number and its data
abbrev pub builds : Command → ℕ → Payload → Request
builds Lnt n p = request.Load (load.Timer n)
builds Snt n p = request.Store (store.Timer n (row_in p).x)
builds Lnd n p = request.Load (load.Register n)
builds Snd n p = request.Store (store.Register n (row_in p).x)
builds Lnl n p = request.Load (load.Row n)
builds Snl n p = request.Store (store.Row n (row_in p))
builds Lnib n p = request.Load (load.Input (signal n))
builds Lnob n p = request.Load (load.Output (signal n))
builds Snob n p = request.Store (store.Output (signal n) (row_in p).x)
builds Lnid n p = request.Load (load.InputPort (port n))
builds Lnod n p = request.Load (load.OutputPort (port n))
builds Snod n p = request.Store (store.OutputPort (port n) (row_in p).x)
builds Lnbb n p = request.Load (load.MemoryBit (signal n))
builds Snbb n p = request.Store (store.MemoryBit (signal n) (row_in p).x)
builds Lnbd n p = request.Load (load.MemoryPort (port n))
builds Snbd n p = request.Store (store.MemoryPort (port n) (row_in p).x)
builds Lna n p = request.Load (load.Step n)
builds Sna n p = request.Store (store.Step n (step_in p))

-- the request that has these parts
abbrev pub request_of : Parts → Request
request_of p = builds p.command p.number p.payload
