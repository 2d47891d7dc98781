-- The tables have their shape after setup, and every step keeps it.
use Prim.Native.Nat.{ℕ, ◌<◌}
use mathlib.Core.Path.{◌≡◌, refl}
use mathlib.Core.List.{List, []}
use native.Mathlib.Decide.{ℕ_discrete}
use lib.ListN.{length, get_or, replicate, length-set, length-replicate, get_or-replicate}
use Rattle.commands.specs.declared.request.Store.{Store}
use Rattle.commands.specs.declared.request.Store.TheVariants as store
use Rattle.commands.specs.declared.request.Request.TheVariants as request
use Rattle.tables.specs.Tables.{Tables, set2, stored, zeros}
use Rattle.model.specs.Call.{Call}
use Rattle.model.specs.Box.{Box, Decision, unanswered, refused, accepted, input_set, count_asked, decide_on, perform_tables, perform, after, setup}
use Rattle.model.specs.Shaped.{Rows, Shaped}
use Rattle.model.proofs.Laws.{row_other, row_same}

-- ---- one table

rows_set : {A : Type 0} {m : ℕ} (t : List (List A)) (j n : ℕ) (v : A) → Rows m t → Rows m (set2 t j n v)
rows_set {m = m} t j n v h = record { slots = rw length-set h.slots; row = λ k l. go k l (ℕ_discrete k j) }
  where
    go : (k : ℕ) → k < 4 → Dec (k ≡ j) → length (get_or (set2 t j n v) k []) ≡ m
    go k l (yes e) = rw (← e, row_same t k n v h.slots l, length-set) (h.row k l)
    go k l (no ne) = rw (row_other t j k n v ne) (h.row k l)

rows_equal : {A : Type 0} (n : ℕ) (a : A) → Rows n (replicate 4 (replicate n a))
rows_equal n a =
    record { slots = refl; row = λ k l. rw (get_or-replicate 4 k (replicate n a) [] l) (length-replicate n a) }

-- ---- all of them

shaped_stored : (t : Tables) (k : ℕ) (q : Store) → Shaped t → Shaped (stored k q t)
unfolding stored
shaped_stored t k (store.Timer n v) h = search rows_set
shaped_stored t k (store.Register n v) h = search rows_set
shaped_stored t k (store.Row n r) h = search rows_set
shaped_stored t k (store.Output g v) h = search (rows_set, length-set)
shaped_stored t k (store.OutputPort p v) h = search (rows_set, length-set)
shaped_stored t k (store.MemoryBit g v) h = search rows_set
shaped_stored t k (store.MemoryPort p v) h = search rows_set
shaped_stored t k (store.Step n s) h = search rows_set

shaped_performed : (t : Tables) (d : Decision) → Shaped t → Shaped (perform_tables t d)
shaped_performed t (unanswered n p) h = h
shaped_performed t (refused k s n p q) h = h
shaped_performed t (accepted k s (request.Load l)) h = h
shaped_performed t (accepted k s (request.Store q)) h = shaped_stored t k q h
shaped_performed t (input_set k p v) h = search rows_set
shaped_performed t (count_asked k) h = h

pub after_shaped : (b : Box) (c : Call) → Shaped b.tables → Shaped (after b c).tables
unfolding after perform
after_shaped b c h = shaped_performed b.tables (decide_on b c) h

pub setup_shaped : (want m : List ℕ) → Shaped (setup want m).tables
unfolding setup zeros
setup_shaped want m = search (rows_equal, length-replicate)
