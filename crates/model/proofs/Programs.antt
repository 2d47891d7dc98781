-- The memory of the START programs: no call changes its length, it has its size wherever setup fits an arm, and a decision
-- changes no byte of the part of a slot that it does not concern.
use Prim.Native.Nat.{ℕ}
use mathlib.Core.Path.{◌≡◌, refl, sym, ap, ◌∙◌}
use mathlib.Core.Bool.{Bool, true, false, cond}
use mathlib.Core.List.{List, [], ◌∷◌}
use native.Mathlib.Omega.{arith}
use borrow.Author.Tests.{ltb-true, ltb-false}
use lib.Dec.{ltb, eqb}
use lib.ListN.{length, get_or, replicate, length-replicate, get_or-replicate, get_or-eq_default}
use Rattle.steps.specs.Step.{typed_of, is_step}
use Rattle.commands.specs.declared.request.Store.{Store}
use Rattle.commands.specs.declared.request.Store.TheVariants as store
use Rattle.commands.specs.declared.request.Request.TheVariants as request
use Rattle.programs.specs.Memory.{size, part, program}
use Rattle.programs.proofs.Programs as programs
use Rattle.tables.specs.Tables.{Tables, StoreInRange, stored, zeros}
use Rattle.tables.proofs.Ranges.{store_within}
use Rattle.model.specs.Call.{Call}
use Rattle.model.specs.Setup.{setup_refusal}
use Rattle.model.specs.Box.{Box, setup, at, Decision, unanswered, refused, accepted, input_set, count_asked, decide_on, perform_tables, perform, after}
use Rattle.model.specs.Addressed.{Fitted}
use Rattle.model.proofs.Slots.{concerns}
use Rattle.model.proofs.Ranges.{Sound}

-- ---- its length

stored_length : (t : Tables) (k : ℕ) (q : Store) → length (stored k q t).programs ≡ length t.programs
unfolding stored
stored_length t k (store.Timer n v) = refl
stored_length t k (store.Register n v) = refl
stored_length t k (store.Row n r) = refl
stored_length t k (store.Output g v) = refl
stored_length t k (store.OutputPort p v) = refl
stored_length t k (store.MemoryBit g v) = refl
stored_length t k (store.MemoryPort p v) = refl
stored_length t k (store.Step n s) = programs.stored_length t.programs k n s

performed_length : (t : Tables) (d : Decision) → length (perform_tables t d).programs ≡ length t.programs
performed_length t (unanswered n p) = refl
performed_length t (refused k s n p q) = refl
performed_length t (accepted k s (request.Load l)) = refl
performed_length t (accepted k s (request.Store q)) = stored_length t k q
performed_length t (input_set k p v) = refl
performed_length t (count_asked k) = refl

pub after_length : (b : Box) (c : Call) → length (after b c).tables.programs ≡ length b.tables.programs
unfolding after perform
after_length b c = performed_length b.tables (decide_on b c)

-- ---- what setup leaves

-- where an arm is fitted, it is cleared
pub fitted_cleared : (want m : List ℕ) (k : ℕ) → Fitted k (setup want m).stations → (setup want m).tables.programs ≡ replicate size 0
unfolding setup zeros
fitted_cleared want m k f = go (eqb (setup_refusal want m) 0) f
  where
    go : (t : Bool) → Fitted k (cond t want (replicate 4 0)) → ◌≡◌ {A = List ℕ} (cond t (replicate size 0) m) (replicate size 0)
    go true g = refl
    go false g = absurd (g.1 (get_or-replicate 4 k 0 0 g.0))

pub fitted_size : (want m : List ℕ) (k : ℕ) → Fitted k (setup want m).stations → length (setup want m).tables.programs ≡ size
fitted_size want m k f = ap length (fitted_cleared want m k f) ∙ length-replicate {A = ℕ} size 0

-- ---- the parts of other slots

stored_part : (t : Tables) (k j : ℕ) (q : Store) → StoreInRange q → (k ≡ j → ⊥) → part k (stored j q t).programs ≡ part k t.programs
unfolding stored
stored_part t k j (store.Timer n v) e ne = refl
stored_part t k j (store.Register n v) e ne = refl
stored_part t k j (store.Row n r) e ne = refl
stored_part t k j (store.Output g v) e ne = refl
stored_part t k j (store.OutputPort p v) e ne = refl
stored_part t k j (store.MemoryBit g v) e ne = refl
stored_part t k j (store.MemoryPort p v) e ne = refl
stored_part t k j (store.Step n s) e ne = programs.parts_stand t.programs j n s k (store_within {q = store.Step n s} refl e).0 (λ q. ne (sym q))

pub other_part : (b : Box) (k : ℕ) (t : Bool) (d : Decision) → Sound t d → (concerns d ≡ at k → ⊥) → part k (perform b d).tables.programs ≡ part k b.tables.programs
unfolding perform
other_part b k t (unanswered n p) e h = refl
other_part b k t (refused j s n p q) e h = refl
other_part b k t (accepted j s (request.Load l)) e h = refl
other_part b k t (accepted j s (request.Store q)) e h = stored_part b.tables k j q e (λ z. h (ap at (sym z)))
other_part b k t (input_set j p v) e h = refl
other_part b k t (count_asked j) e h = refl

-- ---- what stands at a step of a program

-- whatever the bytes are, the texts there are a step; past the last step there are none
pub program_step : (m : List ℕ) (k n : ℕ) (t : List ℕ) (ts : List (List ℕ)) → get_or (program k m) n [] ≡ t ∷ ts → is_step (typed_of (t ∷ ts)) ≡ true
program_step m k n t ts e = go (ltb n 256) refl
  where
    go : (b : Bool) → ltb n 256 ≡ b → is_step (typed_of (t ∷ ts)) ≡ true
    go true h = programs.stands_as_step m k n t ts (sym (programs.program_at m k n (ltb-true n 256 h)) ∙ e)
    go false h =
        let z = ltb-false n 256 h in
        let none : get_or (program k m) n [] ≡ [] = get_or-eq_default (program k m) [] (omega (arith, programs.program_length k m)) in
        let clash : [] ≡ t ∷ ts = sym none ∙ e in
        let c : ◌≡◌ {A = ℕ} 0 1 = cc in
        absurd (omega arith)
