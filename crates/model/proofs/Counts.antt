-- The number kept for each slot is the ones counted over its output ports: setup leaves it so, and every call keeps it so.
use Prim.Native.Nat.{ℕ, ◌-◌, ◌/◌, ◌%◌, ◌≤◌, ◌<◌}
use mathlib.Core.Path.{◌≡◌, refl}
use mathlib.Core.Bool.{Bool}
use mathlib.Core.List.{List, []}
use native.Mathlib.Omega.{arith}
use native.Mathlib.Decide.{ℕ_discrete}
use lib.Count.{ones}
use lib.IntN.{nat_abs}
use lib.ListN.{get_or, set, replicate, get_or-replicate}
use lib.Seq.{get_or-set_same, get_or-set_other}
use Rattle.commands.specs.declared.request.Store.{Store}
use Rattle.commands.specs.declared.request.Store.TheVariants as store
use Rattle.commands.specs.declared.request.Request.TheVariants as request
use Rattle.ports.specs.On.{signals_on, moved}
use Rattle.tables.specs.Tables.{Tables, StoreInRange, at2, set2, stored, zeros}
use Rattle.ports.proofs.Bits.{with_bit_byte}
use Rattle.ports.proofs.On.{eight_a_port, moved_true}
use Rattle.tables.proofs.Ranges.{store_within}
use Rattle.model.specs.Call.{Call}
use Rattle.model.specs.Box.{Box, setup, at, Decision, unanswered, refused, accepted, input_set, count_asked, decide_on, perform_tables, perform, after}
use Rattle.model.specs.Shaped.{Shaped}
use Rattle.model.specs.Ranges.{brings_byte}
use Rattle.model.specs.Counts.{TrueCount}
use Rattle.model.proofs.Laws.{row_other, row_same, Every, every_set, every_equal}
use Rattle.model.proofs.Slots.{concerns, concerned}
use Rattle.model.proofs.Shaped.{after_shaped, setup_shaped}
use Rattle.model.proofs.Ranges.{Sound, sound}

abbrev pub Byte : ℕ → Type 0
Byte v = v < 256

-- each output port holds a byte, and the number kept for each slot is that of its signals that are on
pub record Tally (outputs : List (List ℕ)) (on : List ℕ) : Type 0 where
  pub bytes : Every Byte 0 outputs
  pub count : (k : ℕ) → k < 4 → get_or on k 0 ≡ signals_on 32 (get_or outputs k [])

-- what setup and every call leave
pub record Tallied (t : Tables) : Type 0 where
  pub shaped : Shaped t
  pub tally : Tally t.outputs t.on

-- ---- a write of an output port

module _ (t : Tables) (s p v : ℕ) (h : Shaped t) (l : s < 4) (in-port : p < 32) (in-byte : v < 256) (y : Tally t.outputs t.on) where
  abbrev row : List ℕ
  row = get_or t.outputs s []

  abbrev number : ℕ
  number = moved (get_or t.on s 0) (at2 t.outputs s p) v

  bytes_set : Every Byte 0 (set2 t.outputs s p v)
  bytes_set = every_set Byte 0 t.outputs s p v in-byte y.bytes

  row_set : get_or (set2 t.outputs s p v) s [] ≡ set row p v
  row_set = row_same t.outputs s p v h.outputs.slots l

  number_set : number ≡ signals_on 32 (set row p v)
  number_set =
      let few : signals_on 32 (set row p v) ≤ 256 = eight_a_port 32 (set row p v) (rw row_set at (bytes_set s)) in
      rw (y.count s l) (moved_true 32 row p v in-port (rw (h.outputs.row s l) in-port) (omega arith))

  counts_set : (k : ℕ) → k < 4 → get_or (set t.on s number) k 0 ≡ signals_on 32 (get_or (set2 t.outputs s p v) k [])
  counts_set k m = go (ℕ_discrete k s)
    where
      go : Dec (k ≡ s) → get_or (set t.on s number) k 0 ≡ signals_on 32 (get_or (set2 t.outputs s p v) k [])
      go (yes e) = rw (e, get_or-set_same t.on s number 0 (rw h.on l), row_set) number_set
      go (no e) = rw (get_or-set_other t.on s k number 0 e, row_other t.outputs s k p v e) (y.count k m)

  output_tally : Tally (set2 t.outputs s p v) (set t.on s number)
  output_tally = record { bytes = bytes_set; count = counts_set }

-- ---- calls

stored_tally : (t : Tables) (k : ℕ) (q : Store) → k < 4 → StoreInRange q → Shaped t → Tally t.outputs t.on → Tally (stored k q t).outputs (stored k q t).on
unfolding stored
stored_tally t k (store.Timer n v) l e h y = y
stored_tally t k (store.Register n v) l e h y = y
stored_tally t k (store.Row n r) l e h y = y
stored_tally t k (store.Output g v) l e h y =
    let w = store_within {q = store.Output g v} refl e in
    output_tally t k ((g.0 - 0) / 8) _ h l (omega (arith, w.0)) (with_bit_byte _ ((g.0 - 0) % 8) (nat_abs v) (y.bytes k ((g.0 - 0) / 8)) (omega arith) w.1) y
stored_tally t k (store.OutputPort p v) l e h y = let w = store_within {q = store.OutputPort p v} refl e in output_tally t k p.0 (nat_abs v) h l w.0 w.1 y
stored_tally t k (store.MemoryBit g v) l e h y = y
stored_tally t k (store.MemoryPort p v) l e h y = y
stored_tally t k (store.Step n s) l e h y = y

performed_tally : (t : Tables) (b : Bool) (d : Decision) → Sound b d → ((k : ℕ) → concerns d ≡ at k → k < 4) → Shaped t
    → Tally t.outputs t.on → Tally (perform_tables t d).outputs (perform_tables t d).on
performed_tally t b (unanswered n p) e l h y = y
performed_tally t b (refused k s n p q) e l h y = y
performed_tally t b (accepted k s (request.Load q)) e l h y = y
performed_tally t b (accepted k s (request.Store q)) e l h y = stored_tally t k q (l k refl) e h y
performed_tally t b (input_set k p v) e l h y = y
performed_tally t b (count_asked k) e l h y = y

pub after_tallied : (b : Box) (c : Call) → Tallied b.tables → Tallied (after b c).tables
unfolding after perform
after_tallied b c h =
    record {
      shaped = after_shaped b c h.shaped;
      tally = performed_tally b.tables (brings_byte c) (decide_on b c) (sound b.stations _ c)
          (λ k e. (concerned b.stations k _ c e).fitted.0) h.shaped h.tally;
    }

setup_tally : (k : ℕ) → k < 4 → get_or (replicate 4 0) k 0 ≡ signals_on 32 (get_or (replicate 4 (replicate 32 0)) k [])
unfolding signals_on ones
setup_tally k l = rw (get_or-replicate {A = ℕ} 4 k 0 0 l, get_or-replicate {A = List ℕ} 4 k (replicate 32 0) [] l)

pub setup_tallied : (want m : List ℕ) → Tallied (setup want m).tables
unfolding setup zeros
setup_tallied want m =
    record {
      shaped = setup_shaped want m;
      tally = record { bytes = every_equal Byte 0 4 32 0 (omega arith) (omega arith); count = setup_tally };
    }

-- ---- in the words of specs/Counts.antt

pub true_count : (t : Tables) (k : ℕ) → k < 4 → Tallied t → TrueCount t k
true_count t k l h =
    let y = h.tally in
    record { count = y.count k l; most = rw (y.count k l) (eight_a_port 32 (get_or t.outputs k []) (y.bytes k)) }
