-- Demand 3, one statement about a whole list of calls (proved in proofs/Isolation.antt).
use Rattle.std.specs.Prelude.{ℕ, ◌<◌, ◌≡◌, false, List, [], get_or}
use Rattle.programs.specs.Memory.{part, program}
use Rattle.tables.specs.Tables.{with_programs}
use Rattle.model.specs.Call.{Call}
use Rattle.model.specs.Box.{Box, setup, after, answer, run}
use Rattle.model.specs.Lone.{zero_arm, run_lone, answers_lone}
use Rattle.model.specs.Addressed.{Fitted, is_for, events_for, answers_to, arm_of}

-- the arm of slot k behaves as the lone box that has its station and gets its calls alone
pub record Isolated (b : Box) (k : ℕ) (cs : List Call) : Type 0 where
  pub tables : arm_of k (run b cs) ≡ run_lone (get_or b.stations k 0) zero_arm (events_for k b.stations cs)
  pub answers : answers_to k b cs ≡ answers_lone (get_or b.stations k 0) zero_arm (events_for k b.stations cs)

-- for the numbers and the memory given to setup, accepted or refused, and any list of calls
pub record Demand3 (want m : List ℕ) (cs : List Call) : Type 0 where
  -- each fitted arm's tables, steps and answers are those of its lone box
  pub alone : (k : ℕ) → Fitted k (setup want m).stations → Isolated (setup want m) k cs
  -- a further call that is addressed to no arm changes no table and gets no reply
  pub unaddressed : (c : Call)
      → ((k : ℕ) → Fitted k (setup want m).stations → is_for k (setup want m).stations c ≡ false)
      → ((after (run (setup want m) cs) c).tables ≡ (run (setup want m) cs).tables)
      × ((answer (run (setup want m) cs) c).reply ≡ [])
  -- a further call that is not addressed to slot k's arm changes no byte of its part of the memory
  pub others : (c : Call) (k : ℕ) → k < 4 → is_for k (setup want m).stations c ≡ false
      → part k (after (run (setup want m) cs) c).tables.programs ≡ part k (run (setup want m) cs).tables.programs
  -- the tables of an unfitted slot stay zero, and its steps as setup left them
  pub unfitted : (k : ℕ) → k < 4 → get_or (setup want m).stations k 0 ≡ 0
      → arm_of k (run (setup want m) cs) ≡ with_programs zero_arm (program k (setup want m).tables.programs)
  -- and so do the bytes of its part
  pub part : (k : ℕ) → k < 4 → get_or (setup want m).stations k 0 ≡ 0
      → part k (run (setup want m) cs).tables.programs ≡ part k (setup want m).tables.programs
  -- the stations stay as setup left them
  pub stations : (run (setup want m) cs).stations ≡ (setup want m).stations
