-- What is accepted is in range, so every table is in range after any list of calls.
use Prim.Native.Nat.{ℕ, ◌-◌, ◌/◌, ◌%◌}
use mathlib.Core.Path.{◌≡◌, refl}
use mathlib.Core.Bool.{Bool, true}
use mathlib.Core.List.{List, [], ◌∷◌}
use native.Mathlib.Omega.{arith}
use borrow.Author.Tests.{leb-true}
use lib.Dec.{ltb, leb, eqb}
use lib.IntN.{ℤ, pos, nat_abs}
use lib.ListN.{length, replicate}
use Rattle.frame.specs.Frame.{read_frame}
use Rattle.names.specs.declared.command.Command.TheVariants.{Snl}
use Rattle.commands.specs.declared.table.Kind.{Kind}
use Rattle.commands.specs.declared.table.Kind.TheVariants as kind
use Rattle.commands.specs.declared.request.Payload.TheVariants as payload
use Rattle.commands.specs.declared.request.Store.{Store}
use Rattle.commands.specs.declared.request.Store.TheVariants as store
use Rattle.commands.specs.declared.request.Request.TheVariants as request
use Rattle.commands.specs.Table.{rule_of}
use Rattle.bodies.specs.Body.{Judged}
use Rattle.bodies.specs.Body as judged
use Rattle.numbers.specs.Ranges.{in_range}
use Rattle.bodies.specs.Body.{read_body}
use Rattle.harl.specs.Message.{judge_request}
use Rattle.numbers.proofs.Bounds.{in_size, and_left, and_right, zero_in}
use Rattle.data.proofs.Bounds.{passed}
use Rattle.harl.proofs.Accepted.{accepted_in_range}
use Rattle.ports.specs.Bits.{with_bit}
use Rattle.tables.specs.Tables.{Tables, StoreInRange, set2, stored, zeros}
use Rattle.ports.proofs.Bits.{with_bit_byte}
use Rattle.model.specs.Call.{Call, serve, input, outputs_on}
use Rattle.model.specs.Box.{Box, setup, Slot, nowhere, at, slot_of, Decision, unanswered, refused, accepted, input_set, count_asked, decide_body, decide_slot, is_fitted, decide_fitted, has_room, decide, decide_on, perform_tables, perform, after, run}
use Rattle.model.specs.Ranges.{InRange, brings_byte, bring_bytes, AlwaysInRange}
use Rattle.model.proofs.Laws.{cond_has, Every, every_set, every_equal, port_in_lem, natural_in, row_out, data_in_lem}

-- ---- a store

-- a natural number and an offset in range
abbrev Natural : Kind → ℕ → Type 0
Natural c v = in_range c (pos v) ≡ true

abbrev Offset : ℤ → Type 0
Offset v = in_range kind.Row v ≡ true

-- a bit in a byte
with_bit_in : (b n : ℕ) (v : ℤ) → Natural kind.Port b → in_range kind.Signal v ≡ true → Natural kind.Port (with_bit b (n % 8) (nat_abs v))
with_bit_in b n v h i =
    let byte = in_size kind.Port (pos b) h in
    let bit = in_size kind.Signal v i in
    let l = with_bit_byte b (n % 8) (nat_abs v) (omega arith) (omega arith) (omega arith) in
    port_in_lem _ (omega arith)

set_natural : (c : Kind) (t : List (List ℕ)) (k n v : ℕ) → Natural c v → Every (Natural c) 0 t → Every (Natural c) 0 (set2 t k n v)
set_natural c = every_set (Natural c) 0

set_offset : (t : List (List ℤ)) (k n : ℕ) (v : ℤ) → Offset v → Every Offset (pos 0) t → Every Offset (pos 0) (set2 t k n v)
set_offset = every_set Offset (pos 0)

-- an SN that is accepted
stored_in_lem : (t : Tables) (k : ℕ) (q : Store) → StoreInRange q → InRange t → InRange (stored k q t)
unfolding stored
stored_in_lem t k (store.Timer n v) e h = search (set_natural, natural_in kind.Timer v refl (data_in_lem kind.Timer _ _ _ v e))
stored_in_lem t k (store.Register n v) e h = search (set_natural, natural_in kind.Register v refl (data_in_lem kind.Register _ _ _ v e))
stored_in_lem t k (store.Row n r) e h = search (set_offset, row_out r (passed (rule_of Snl) n (payload.Numbers r) e).payload)
stored_in_lem t k (store.Output g v) e h =
    search (set_natural, with_bit_in _ (g.0 - 0) v (h.outputs k ((g.0 - 0) / 8)) (data_in_lem kind.Signal _ _ _ v e))
stored_in_lem t k (store.OutputPort p v) e h = search (set_natural, natural_in kind.Port v refl (data_in_lem kind.Port _ _ _ v e))
stored_in_lem t k (store.MemoryBit g v) e h =
    search (set_natural, with_bit_in _ (g.0 - 256) v (h.memory k ((g.0 - 256) / 8)) (data_in_lem kind.Signal _ _ _ v e))
stored_in_lem t k (store.MemoryPort p v) e h = search (set_natural, natural_in kind.Port v refl (data_in_lem kind.Port _ _ _ v e))
stored_in_lem t k (store.Step n s) e h = search set_natural

-- ---- what is decided of a call

-- an accepted request is in range; an input call brings a byte, where t says so
abbrev pub Sound : Bool → Decision → Type 0
Sound t (unanswered n p) = Unit
Sound t (refused k s n p q) = Unit
Sound t (accepted k s r) = judge_request r ≡ 0
Sound t (input_set k p v) = t ≡ true → in_range kind.Port (pos v) ≡ true
Sound t (count_asked k) = Unit

sound_slot : (t : Bool) (slice : List ℕ) (s : ℕ) (body : List ℕ) (f : Slot) → Sound t (decide_slot slice s body f)
sound_slot t slice s body nowhere = tt
sound_slot t slice s body (at k) = go (read_body body) refl
  where
    go : (j : Judged) → read_body body ≡ j → Sound t (decide_body slice k s j)
    go (judged.Accepted r) e = accepted_in_range body r e
    go (judged.Refused n q) e = tt

sound_fitted : (t : Bool) (st : List ℕ) (k : ℕ) (d : Decision) → Sound t d → Sound t (decide_fitted st k d)
sound_fitted t st k d h = cond_has (Sound t) (is_fitted st k) h tt

pub sound : (st : List ℕ) (lent : ℕ) (c : Call) → Sound (brings_byte c) (decide st lent c)
unfolding decide brings_byte
sound st lent (serve slice room) =
    let o = read_frame slice in
    cond_has (Sound true) (has_room lent room)
    (cond_has (Sound true) (eqb o.number 0) (sound_slot true slice o.station o.body (slot_of st o.station)) tt) tt
sound st lent (input k p v) =
    sound_fitted (leb v 255) st k _ (cond_has (Sound (leb v 255)) (ltb 31 p) tt (λ e. port_in_lem v (leb-true v 255 e)))
sound st lent (outputs_on k) = sound_fitted true st k (count_asked k) tt

-- ---- calls

performed_in : (t : Tables) (d : Decision) → Sound true d → InRange t → InRange (perform_tables t d)
performed_in t (unanswered n p) e h = h
performed_in t (refused k s n p q) e h = h
performed_in t (accepted k s (request.Load l)) e h = h
performed_in t (accepted k s (request.Store q)) e h = stored_in_lem t k q e h
performed_in t (input_set k p v) e h = let i = e refl in search set_natural
performed_in t (count_asked k) e h = h

pub after_in : (b : Box) (c : Call) → brings_byte c ≡ true → InRange b.tables → InRange (after b c).tables
unfolding after perform
after_in b c e h = performed_in b.tables (decide_on b c) (rw e at (sound b.stations (length b.tables.programs) c)) h

run_in : (cs : List Call) (b : Box) → bring_bytes cs ≡ true → InRange b.tables → InRange (run b cs).tables
unfolding run bring_bytes
run_in [] b e h = h
run_in (c ∷ cs) b e h = run_in cs (after b c) (and_right (brings_byte c) _ e) (after_in b c (and_left (brings_byte c) _ e) h)

zero_natural : (c : Kind) (n : ℕ) → Every (Natural c) 0 (replicate 4 (replicate n 0))
zero_natural c n = every_equal (Natural c) 0 4 n 0 (zero_in c) (zero_in c)

zero_offset : (n : ℕ) → Every Offset (pos 0) (replicate 4 (replicate n (pos 0)))
zero_offset n = every_equal Offset (pos 0) 4 n (pos 0) (zero_in kind.Row) (zero_in kind.Row)

setup_in : (want m : List ℕ) → InRange (setup want m).tables
unfolding setup zeros
setup_in want m = search (zero_natural, zero_offset)

pub always_in_range : AlwaysInRange
always_in_range want m cs e = run_in cs (setup want m) e (setup_in want m)
