-- The bounds that the number and the data of a request keep where they are in range.
use Prim.Native.Nat.{ℕ, ◌≤◌, ◌<◌}
use mathlib.Core.Path.{◌≡◌, refl}
use mathlib.Core.Bool.{true, false}
use native.Mathlib.Omega.{arith}
use lib.IntN.{ℤ, nat_abs}
use Rattle.commands.specs.declared.table.Kind.{Kind}
use Rattle.commands.specs.declared.table.Kind.TheVariants as kind
use Rattle.steps.specs.Step.{is_step}
use Rattle.commands.specs.declared.table.Rule.{Rule}
use Rattle.commands.specs.declared.request.Payload.{Payload}
use Rattle.commands.specs.declared.request.Payload.TheVariants as payload
use Rattle.commands.specs.declared.request.Load.{Load}
use Rattle.commands.specs.declared.request.Load.TheVariants as load
use Rattle.commands.specs.declared.request.Store.{Store}
use Rattle.commands.specs.declared.request.Store.TheVariants as store
use Rattle.commands.specs.Table.{stores, timers, registers, rows, signals, ports, memory_bits, memory_ports, steps}
use Rattle.commands.specs.Request.{one}
use Rattle.numbers.specs.Ranges.{limits_of, all_in_range}
use Rattle.data.specs.Ranges.{judge}
use Rattle.numbers.proofs.Bounds.{in_size, all_x}
use Rattle.data.proofs.Bounds.{passed, judged}
use Rattle.tables.specs.Tables.{read_by, LoadInRange, StoreInRange}

-- of an LN
abbrev pub LoadBound : Load → Type 0
LoadBound (load.Timer n) = n < 16
LoadBound (load.Register n) = n < 64
LoadBound (load.Row n) = n < 100
LoadBound (load.Input g) = g.0 < 256
LoadBound (load.InputPort p) = p.0 < 32
LoadBound (load.Output g) = g.0 < 256
LoadBound (load.OutputPort p) = p.0 < 32
LoadBound (load.MemoryBit g) = (256 ≤ g.0) × (g.0 < 384)
LoadBound (load.MemoryPort p) = p.0 < 16
LoadBound (load.Step n) = n < 256

load_bound : (l : Load) → LoadInRange l → LoadBound l
load_bound (load.Timer n) h = omega (arith, (passed _ _ _ h).high)
load_bound (load.Register n) h = omega (arith, (passed _ _ _ h).high)
load_bound (load.Row n) h = omega (arith, (passed _ _ _ h).high)
load_bound (load.Input g) h = omega (arith, (passed _ _ _ h).high)
load_bound (load.InputPort p) h = omega (arith, (passed _ _ _ h).high)
load_bound (load.Output g) h = omega (arith, (passed _ _ _ h).high)
load_bound (load.OutputPort p) h = omega (arith, (passed _ _ _ h).high)
load_bound (load.MemoryBit g) h = let p = passed _ _ _ h in (p.low, omega (arith, p.high))
load_bound (load.MemoryPort p) h = omega (arith, (passed _ _ _ h).high)
load_bound (load.Step n) h = omega (arith, (passed _ _ _ h).high)

small : (k : Kind) (limit : ℕ) (v : ℤ) → all_in_range k (one v) ≡ true → nat_abs (limits_of k).high < limit → nat_abs v < limit
small k limit v h l =
    let s : nat_abs v ≤ nat_abs (limits_of k).high = in_size k v (all_x k (one v) h) in
    omega arith

-- of the data of an SN
abbrev pub DataBound : Store → Type 0
DataBound (store.Timer n v) = nat_abs v < 65536
DataBound (store.Register n v) = nat_abs v < 65536
DataBound (store.Row n r) = Unit
DataBound (store.Output g v) = nat_abs v < 2
DataBound (store.OutputPort p v) = nat_abs v < 256
DataBound (store.MemoryBit g v) = nat_abs v < 2
DataBound (store.MemoryPort p v) = nat_abs v < 256
DataBound (store.Step n s) = is_step s ≡ true

data_bound : (q : Store) → StoreInRange q → DataBound q
data_bound (store.Timer n v) h = small kind.Timer 65536 v (passed _ _ _ h).payload (omega arith)
data_bound (store.Register n v) h = small kind.Register 65536 v (passed _ _ _ h).payload (omega arith)
data_bound (store.Row n r) h = tt
data_bound (store.Output g v) h = small kind.Signal 2 v (passed _ _ _ h).payload (omega arith)
data_bound (store.OutputPort p v) h = small kind.Port 256 v (passed _ _ _ h).payload (omega arith)
data_bound (store.MemoryBit g v) h = small kind.Signal 2 v (passed _ _ _ h).payload (omega arith)
data_bound (store.MemoryPort p v) h = small kind.Port 256 v (passed _ _ _ h).payload (omega arith)
data_bound (store.Step n s) h = (passed _ _ _ h).payload

-- the number of an SN is one of its LN's: they share a row of the command table
number_of : (ln : Rule) (n : ℕ) (p : Payload) → ln.store ≡ false → judge (stores ln) n p ≡ 0 → judge ln n payload.None ≡ 0
number_of ln n p e h = let w = passed (stores ln) n p h in judged ln n payload.None w.low w.high (rw e)

pub readable : (q : Store) → StoreInRange q → LoadInRange (read_by q)
readable (store.Timer n v) h = number_of timers n (payload.Numbers (one v)) refl h
readable (store.Register n v) h = number_of registers n (payload.Numbers (one v)) refl h
readable (store.Row n r) h = number_of rows n (payload.Numbers r) refl h
readable (store.Output g v) h = number_of signals g.0 (payload.Numbers (one v)) refl h
readable (store.OutputPort p v) h = number_of ports p.0 (payload.Numbers (one v)) refl h
readable (store.MemoryBit g v) h = number_of memory_bits g.0 (payload.Numbers (one v)) refl h
readable (store.MemoryPort p v) h = number_of memory_ports p.0 (payload.Numbers (one v)) refl h
readable (store.Step n s) h = number_of steps n (payload.Texts s) refl h

-- of a request that was matched
pub load_within : {l m : Load} → l ≡ m → LoadInRange l → LoadBound m
load_within {l} {m} e h = load_bound m (rw e at h)

pub store_within : {q r : Store} → q ≡ r → StoreInRange q → LoadBound (read_by r) × DataBound r
store_within {q} {r} e h = let i = rw e at h in (load_bound (read_by r) (readable r i), data_bound r i)
