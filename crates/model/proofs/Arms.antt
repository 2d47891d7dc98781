-- What a decision does to the arm of slot k: one that concerns it does what the lone box does, and one that
-- concerns another slot leaves it as it was.
use Prim.Native.Nat.{ℕ, ◌<◌}
use mathlib.Core.Path.{◌≡◌, refl, sym, ap}
use native.Mathlib.Nat.{sub-zero}
use mathlib.Core.Bool.{Bool}
use mathlib.Core.List.{List}
use lib.ListN.{length, get_or}
use Rattle.text.specs.Whole.{digit}
use Rattle.frame.specs.Frame.{read_frame}
use Rattle.commands.specs.declared.request.Load.{Load}
use Rattle.commands.specs.declared.request.Load.TheVariants as load
use Rattle.commands.specs.declared.request.Store.{Store}
use Rattle.commands.specs.declared.request.Store.TheVariants as store
use Rattle.commands.specs.declared.request.Request.TheVariants as request
use Rattle.bodies.specs.Body.{Judged}
use Rattle.bodies.specs.Body as judged
use Rattle.bodies.specs.Body.{read_body}
use Rattle.replies.specs.Reply.{step_outcome, status_text}
use Rattle.harl.specs.Message.{judge_request}
use Rattle.harl.proofs.Accepted.{accepted_in_range}
use Rattle.programs.specs.Memory.{size}
use Rattle.programs.proofs.Programs.{program_at, program_stored, programs_stand}
use Rattle.tables.specs.Tables.{LoadInRange, StoreInRange, with_programs, loaded, stored}
use Rattle.tables.proofs.Ranges.{load_within, store_within}
use Rattle.model.specs.Call.{Call, serve, input, outputs_on, the_count}
use Rattle.model.specs.Box.{Box, at, Decision, unanswered, refused, accepted, input_set, count_asked, decide_body, perform, respond}
use Rattle.model.specs.Lone.{holds, replaced, Step, answer_body, step}
use Rattle.model.specs.Addressed.{event_of, arm_of}
use Rattle.model.specs.Shaped.{Shaped}
use Rattle.model.proofs.Laws.{row_other, row_same}
use Rattle.model.proofs.Slots.{concerns, heard}
use Rattle.model.proofs.Ranges.{Sound}
use Rattle.model.proofs.Counts.{Tallied, true_count}

-- the box after a store
abbrev stored_in : Box → ℕ → Store → Box
stored_in b j q = record { stations = b.stations; tables = stored j q b.tables }

-- ---- its own

pub record Agrees (b : Box) (k : ℕ) (d : Decision) (r : Step) : Type 0 where
  pub arm : arm_of k (perform b d) ≡ r.arm
  pub answer : respond b d ≡ r.answer

-- a request that a body was accepted as is in range
abbrev JudgedIn : Judged → Type 0
JudgedIn (judged.Accepted r) = judge_request r ≡ 0
JudgedIn (judged.Refused n q) = Unit

judged_in : (s : List ℕ) → JudgedIn (read_body s)
judged_in s = go (read_body s) refl
  where
    go : (j : Judged) → read_body s ≡ j → JudgedIn j
    go (judged.Accepted r) e = accepted_in_range s r e
    go (judged.Refused n q) e = tt

module _ (b : Box) (k : ℕ) (z : length b.tables.programs ≡ size) (y : Tallied b.tables) (l : k < 4) where
  abbrev h : Shaped b.tables
  h = y.shaped

  loaded_same : (q : Load) → LoadInRange q → loaded k q b.tables ≡ holds (arm_of k b) q
  unfolding loaded holds
  loaded_same (load.Timer n) e = refl
  loaded_same (load.Register n) e = refl
  loaded_same (load.Row n) e = refl
  loaded_same (load.Input g) e = rw sub-zero
  loaded_same (load.InputPort p) e = refl
  loaded_same (load.Output g) e = rw sub-zero
  loaded_same (load.OutputPort p) e = refl
  loaded_same (load.MemoryBit g) e = refl
  loaded_same (load.MemoryPort p) e = refl
  loaded_same (load.Step n) e = ap (step_outcome n) (sym (program_at b.tables.programs k n (load_within {l = load.Step n} refl e)))

  stored_same : (q : Store) → StoreInRange q → arm_of k (stored_in b k q) ≡ replaced (arm_of k b) q
  unfolding stored replaced
  stored_same (store.Timer n v) e = search row_same
  stored_same (store.Register n v) e = search row_same
  stored_same (store.Row n r) e = search row_same
  stored_same (store.Output g v) e = search (row_same, sub-zero)
  stored_same (store.OutputPort p v) e = search row_same
  stored_same (store.MemoryBit g v) e = search row_same
  stored_same (store.MemoryPort p v) e = search row_same
  stored_same (store.Step n s) e =
      let w = store_within {q = store.Step n s} refl e in
      ap (with_programs (arm_of k b)) (program_stored b.tables.programs k n s z l w.0 w.1)

  body_same : (slice : List ℕ) (own : ℕ) (j : Judged) → JudgedIn j → Agrees b k (decide_body slice k own j) (answer_body slice own (arm_of k b) j)
  unfolding perform respond status_text digit
  body_same slice own (judged.Accepted (request.Load q)) e = record { arm = refl; answer = rw (loaded_same q e) }
  body_same slice own (judged.Accepted (request.Store q)) e = record { arm = stored_same q e; answer = refl }
  body_same slice own (judged.Refused n q) e = record { arm = refl; answer = refl }

  pub same : (c : Call) → Agrees b k (heard k b.stations c) (step (get_or b.stations k 0) (arm_of k b) (event_of c))
  unfolding step perform respond
  same (serve slice room) = body_same slice (get_or b.stations k 0) (read_body (read_frame slice).body) (judged_in (read_frame slice).body)
  same (input j p v) = record { arm = search row_same; answer = refl }
  same (outputs_on j) = record { arm = refl; answer = ap the_count (true_count b.tables k l y).count }

-- ---- another slot's

module _ (b : Box) (k : ℕ) where
  stored_other : (j : ℕ) (q : Store) → StoreInRange q → (k ≡ j → ⊥) → arm_of k (stored_in b j q) ≡ arm_of k b
  unfolding stored
  stored_other j (store.Timer n v) e ne = simp row_other
  stored_other j (store.Register n v) e ne = simp row_other
  stored_other j (store.Row n r) e ne = simp row_other
  stored_other j (store.Output g v) e ne = simp row_other
  stored_other j (store.OutputPort p v) e ne = simp row_other
  stored_other j (store.MemoryBit g v) e ne = simp row_other
  stored_other j (store.MemoryPort p v) e ne = simp row_other
  stored_other j (store.Step n s) e ne =
      ap (with_programs (arm_of k b)) (programs_stand b.tables.programs j n s k (store_within {q = store.Step n s} refl e).0 (λ q. ne (sym q)))

  pub other : (t : Bool) (d : Decision) → Sound t d → (concerns d ≡ at k → ⊥) → arm_of k (perform b d) ≡ arm_of k b
  unfolding perform
  other t (unanswered n p) e h = refl
  other t (refused j s n p q) e h = refl
  other t (accepted j s (request.Load l)) e h = refl
  other t (accepted j s (request.Store q)) e h = stored_other j q e (λ z. h (ap at (sym z)))
  other t (input_set j p v) e h = let ne : k ≡ j → ⊥ = λ z. h (ap at (sym z)) in simp row_other
  other t (count_asked j) e h = refl
