-- The tables of four arms, and what a request does to them (document 01, "The tables and replies").
use Rattle.std.specs.Prelude.{ℕ, ◌≡◌, List, [], get_or, set, replicate, ℤ, pos, nat_abs}
use Rattle.commands.specs.declared.request.Row.{Row}
use Rattle.commands.specs.declared.request.Load.{Load}
use Rattle.commands.specs.declared.request.Load.TheVariants as load
use Rattle.commands.specs.declared.request.Store.{Store}
use Rattle.commands.specs.declared.request.Store.TheVariants as store
use Rattle.replies.specs.declared.reply.Data.TheVariants as held
use Rattle.commands.specs.declared.request.Request.{Request}
use Rattle.commands.specs.declared.request.Request.TheVariants as request
use Rattle.replies.specs.declared.reply.Outcome.{Outcome}
use Rattle.replies.specs.declared.reply.Outcome.TheVariants as outcome
use Rattle.replies.specs.Reply.{step_outcome}
use Rattle.harl.specs.Message.{judge_request}
use Rattle.programs.specs.Memory.{step_at}
use Rattle.programs.specs.Memory as memory
use Rattle.ports.specs.Bits.{bit}
use Rattle.ports.specs.On.{moved}
use Rattle.ports.specs.Place.{place_of, byte_with}

-- something of each field of a row
pub record PerField (A : Type 0) : Type 0 where
  pub x : A
  pub y : A
  pub z : A
  pub w : A

abbrev pub columns : {A : Type 0} → A → A → A → A → PerField A
columns x y z w = record { x = x; y = y; z = z; w = w }

-- a function applied to each
abbrev pub each_field : {A B : Type 0} → (A → B) → PerField A → PerField B
each_field f c = columns (f c.x) (f c.y) (f c.z) (f c.w)

-- and to each with its field of a row
abbrev pub each_with : {A B : Type 0} → (A → ℤ → B) → PerField A → Row → PerField B
each_with f c r = columns (f c.x r.x) (f c.y r.y) (f c.z r.z) (f c.w r.w)

-- what holds of each
pub record EachField {A : Type 0} (P : A → Type 0) (c : PerField A) : Type 0 where
  pub x : P c.x
  pub y : P c.y
  pub z : P c.z
  pub w : P c.w

-- four values as a row
abbrev pub as_row : PerField ℤ → Row
as_row c = record { x = c.x; y = c.y; z = c.z; w = c.w }

-- something of each kind of item: N for whole numbers, Z for offsets; C of the number of outputs that are on; and P of the
-- START programs
pub record PerKind (N Z C P : Type 0) : Type 0 where
  pub timers : N
  pub registers : N
  pub rows : PerField Z
  pub inputs : N
  pub outputs : N
  pub memory : N
  pub on : C
  pub programs : P

abbrev pub per_kind : {N Z C P : Type 0} → N → N → PerField Z → N → N → N → C → P → PerKind N Z C P
per_kind t r c i o m n p =
    record { timers = t; registers = r; rows = c; inputs = i; outputs = o; memory = m; on = n; programs = p }

-- in the order in which the tables are lent
abbrev pub tables : {N Z C P : Type 0} → N → N → Z → Z → Z → Z → N → N → N → C → P → PerKind N Z C P
tables t r x y z w i o m n p = per_kind t r (columns x y z w) i o m n p

-- one of them replaced
abbrev pub with_timers : {N Z C P : Type 0} → PerKind N Z C P → N → PerKind N Z C P
with_timers t l = per_kind l t.registers t.rows t.inputs t.outputs t.memory t.on t.programs

abbrev pub with_registers : {N Z C P : Type 0} → PerKind N Z C P → N → PerKind N Z C P
with_registers t l = per_kind t.timers l t.rows t.inputs t.outputs t.memory t.on t.programs

abbrev pub with_rows : {N Z C P : Type 0} → PerKind N Z C P → PerField Z → PerKind N Z C P
with_rows t l = per_kind t.timers t.registers l t.inputs t.outputs t.memory t.on t.programs

abbrev pub with_inputs : {N Z C P : Type 0} → PerKind N Z C P → N → PerKind N Z C P
with_inputs t l = per_kind t.timers t.registers t.rows l t.outputs t.memory t.on t.programs

abbrev pub with_outputs : {N Z C P : Type 0} → PerKind N Z C P → N → PerKind N Z C P
with_outputs t l = per_kind t.timers t.registers t.rows t.inputs l t.memory t.on t.programs

abbrev pub with_memory : {N Z C P : Type 0} → PerKind N Z C P → N → PerKind N Z C P
with_memory t l = per_kind t.timers t.registers t.rows t.inputs t.outputs l t.on t.programs

abbrev pub with_on : {N Z C P : Type 0} → PerKind N Z C P → C → PerKind N Z C P
with_on t n = per_kind t.timers t.registers t.rows t.inputs t.outputs t.memory n t.programs

abbrev pub with_programs : {N Z C P : Type 0} → PerKind N Z C P → P → PerKind N Z C P
with_programs t p = per_kind t.timers t.registers t.rows t.inputs t.outputs t.memory t.on p

-- one table for each kind: a list of rows, one for each slot; the number kept for each slot; and the bytes of the memory that
-- is lent for the START programs (docs/MEMORY.md)
abbrev pub Tables : Type 0
Tables = PerKind (List (List ℕ)) (List (List ℤ)) (List ℕ) (List ℕ)

-- what slot s holds under n
abbrev pub at2 : List (List ℕ) → ℕ → ℕ → ℕ
at2 t s n = get_or (get_or t s []) n 0

abbrev pub atz2 : List (List ℤ) → ℕ → ℕ → ℤ
atz2 t s n = get_or (get_or t s []) n (pos 0)

-- row n of slot s
abbrev pub row_at : ℕ → ℕ → PerField (List (List ℤ)) → Row
row_at s n c = as_row (each_field (λ t. atz2 t s n) c)

-- the table with v under n of slot s, all else as it was
abbrev pub set2 : {A : Type 0} → List (List A) → ℕ → ℕ → A → List (List A)
set2 t s n v = set t s (set (get_or t s []) n v)

-- signal n of slot s, where the first signal of the table is `first`
abbrev pub signal2 : ℕ → List (List ℕ) → ℕ → ℕ → ℕ
signal2 first t s n = bit (at2 t s (place_of first n).port) (place_of first n).bit

-- the byte of its port with v for that signal
abbrev pub signal_byte : ℕ → List (List ℕ) → ℕ → ℕ → ℕ → ℕ
signal_byte first t s n v = byte_with (get_or t s []) (place_of first n) v

-- a write of an output port: v in port p of slot s, and the number kept for s changed by the difference
abbrev pub set_output : ℕ → ℕ → ℕ → Tables → Tables
set_output s p v t =
    with_on (with_outputs t (set2 t.outputs s p v)) (set t.on s (moved (get_or t.on s 0) (at2 t.outputs s p) v))

-- what an LN answers: what is held under its number
unfoldable pub loaded : ℕ → Load → Tables → Outcome
loaded s (load.Timer n) t = outcome.Data (held.Timer (pos (at2 t.timers s n)))
loaded s (load.Register n) t = outcome.Data (held.Register (pos (at2 t.registers s n)))
loaded s (load.Row n) t = outcome.Data (held.Row (row_at s n t.rows))
loaded s (load.Input g) t = outcome.Data (held.Signal (pos (signal2 0 t.inputs s g.0)))
loaded s (load.InputPort p) t = outcome.Data (held.Port (pos (at2 t.inputs s p.0)))
loaded s (load.Output g) t = outcome.Data (held.Signal (pos (signal2 0 t.outputs s g.0)))
loaded s (load.OutputPort p) t = outcome.Data (held.Port (pos (at2 t.outputs s p.0)))
loaded s (load.MemoryBit g) t = outcome.Data (held.Signal (pos (signal2 256 t.memory s g.0)))
loaded s (load.MemoryPort p) t = outcome.Data (held.Port (pos (at2 t.memory s p.0)))
loaded s (load.Step n) t = step_outcome n (step_at t.programs s n)

-- what an SN leaves: its data under its number, all else as it was but the number of outputs that are on
unfoldable pub stored : ℕ → Store → Tables → Tables
stored s (store.Timer n v) t = with_timers t (set2 t.timers s n (nat_abs v))
stored s (store.Register n v) t = with_registers t (set2 t.registers s n (nat_abs v))
stored s (store.Row n r) t = with_rows t (each_with (λ c v. set2 c s n v) t.rows r)
stored s (store.Output g v) t = set_output s (place_of 0 g.0).port (signal_byte 0 t.outputs s g.0 (nat_abs v)) t
stored s (store.OutputPort p v) t = set_output s p.0 (nat_abs v) t
stored s (store.MemoryBit g v) t = with_memory t (set2 t.memory s (place_of 256 g.0).port (signal_byte 256 t.memory s g.0 (nat_abs v)))
stored s (store.MemoryPort p v) t = with_memory t (set2 t.memory s p.0 (nat_abs v))
stored s (store.Step n q) t = with_programs t (memory.stored s n q t.programs)

-- the item that an SN stores, as the LN that reads it
abbrev pub read_by : Store → Load
read_by (store.Timer n v) = load.Timer n
read_by (store.Register n v) = load.Register n
read_by (store.Row n r) = load.Row n
read_by (store.Output g v) = load.Output g
read_by (store.OutputPort p v) = load.OutputPort p
read_by (store.MemoryBit g v) = load.MemoryBit g
read_by (store.MemoryPort p v) = load.MemoryPort p
read_by (store.Step n q) = load.Step n

-- every row, register, timer and port at zero, no output on, and the memory as given
unfoldable pub zeros : List ℕ → Tables
zeros programs =
    tables (replicate 4 (replicate 16 0)) (replicate 4 (replicate 64 0))
    (replicate 4 (replicate 100 (pos 0))) (replicate 4 (replicate 100 (pos 0)))
    (replicate 4 (replicate 100 (pos 0))) (replicate 4 (replicate 100 (pos 0)))
    (replicate 4 (replicate 32 0)) (replicate 4 (replicate 32 0)) (replicate 4 (replicate 16 0)) (replicate 4 0)
    programs

-- ---- one request on slot s

-- the number and the data of an LN, of an SN, are in range
abbrev pub LoadInRange : Load → Type 0
LoadInRange l = judge_request (request.Load l) ≡ 0

abbrev pub StoreInRange : Store → Type 0
StoreInRange q = judge_request (request.Store q) ≡ 0

-- an LN changes nothing
abbrev pub performed : ℕ → Request → Tables → Tables
performed s (request.Load l) t = t
performed s (request.Store q) t = stored s q t

-- an LN answers what is held, an SN the status 0
abbrev pub outcome_at : ℕ → Request → Tables → Outcome
outcome_at s (request.Load l) t = loaded s l t
outcome_at s (request.Store q) t = outcome.Status 0

pub record Performed (s : ℕ) (r : Request) (before after : Tables) (o : Outcome) : Type 0 where
  pub outcome : o ≡ outcome_at s r before
  pub tables : after ≡ performed s r before
