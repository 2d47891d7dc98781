-- Demand 3 of the running code: what a program saw that called `setup`, and then `serve`, `input` and `outputs_on` one after
-- the other, each on the memory as the last call left it.
use Rattle.std.specs.Prelude.{ℕ, ◌≡◌, cond, List, [], ◌∷◌, map, eqb, length, get_or, take}
use Rattle.harl.specs.declared.message.Sent.{Sent}
use Rattle.tables.specs.Tables.{Tables}
use Rattle.model.specs.Call.{Call, serve, input, outputs_on, Answer, no_reply, the_count}
use Rattle.model.specs.Box.{Box, box}
use Rattle.model.specs.Lone.{zero_arm, run_lone, answers_lone}
use Rattle.model.specs.Addressed.{Fitted, is_for, events_for, arm_of}
use Rattle.slots.specs.declared.count.Count.{Count}
use Rattle.slots.specs.Entries.{SetUp, InputSet, Counted}
use Rattle.gateway.specs.Entries.{Served}

-- a call that was made. served: the slice, the reply area before, what was returned, the tables and the area after.
-- input_made: slot, port, byte, the number that was returned, the tables after. count_made: slot, what was returned
pub data Made : Type 0 where
  served : List ℕ → List ℕ → Sent → Tables → List ℕ → Made
  input_made : ℕ → ℕ → ℕ → ℕ → Tables → Made
  count_made : ℕ → Count → Made

abbrev pub call_of : Made → Call
call_of (served slice before sent t later) = serve slice (length before)
call_of (input_made k port byte n t) = input k port byte
call_of (count_made k r) = outputs_on k

-- what the program was answered: the number, the position, and of the area as many bytes as were reported; of outputs that are
-- on, the count where the number is 0
abbrev pub seen : Made → Answer
seen (served slice before sent t later) = record { number = sent.number; position = sent.position; reply = take sent.length later }
seen (input_made k port byte n t) = no_reply n 0
seen (count_made k r) = cond (eqb r.number 0) (the_count r.count) (no_reply r.number 0)

-- the tables after a call on box b; `outputs_on` is lent them as they are, and cannot change them
abbrev pub tables_after : Box → Made → Tables
tables_after b (served slice before sent t later) = t
tables_after b (input_made k port byte n t) = t
tables_after b (count_made k r) = b.tables

-- what the contract of the entry promises of the call, made on box b
abbrev pub Promised : Box → Made → Type 0
Promised b (served slice before sent t later) = Served b slice before sent t later
Promised b (input_made k port byte n t) = InputSet b k port byte n t
Promised b (count_made k r) = Counted b.stations b.tables.on k r

-- each call made on the stations as they are and the tables as the last call left them
unfoldable pub History : Box → List Made → Type 0
History b [] = Unit
History b (m ∷ ms) = Promised b m × History (box b.stations (tables_after b m)) ms

-- the box that the last call leaves
unfoldable pub last : Box → List Made → Box
last b [] = b
last b (m ∷ ms) = last (box b.stations (tables_after b m)) ms

-- what was answered to the calls addressed to the arm of slot k
unfoldable pub seen_by : ℕ → List ℕ → List Made → List Answer
seen_by k st [] = []
seen_by k st (m ∷ ms) = cond (is_for k st (call_of m)) (seen m ∷ seen_by k st ms) (seen_by k st ms)

-- each fitted arm's tables, steps and answers, as the program saw them, are those of its lone box (proved in
-- proofs/History.antt)
pub record Alone (b : Box) (k : ℕ) (ms : List Made) : Type 0 where
  pub tables : arm_of k (last b ms) ≡ run_lone (get_or b.stations k 0) zero_arm (events_for k b.stations (map call_of ms))
  pub answers : seen_by k b.stations ms ≡ answers_lone (get_or b.stations k 0) zero_arm (events_for k b.stations (map call_of ms))

abbrev pub CodeIsolated : Type 0
CodeIsolated =
    (want m : List ℕ) (number : ℕ) (st : List ℕ) (turn : ℕ) (t : Tables) (ms : List Made)
    → SetUp want m number st turn t → History (box st t) ms
    → (k : ℕ) → Fitted k st → Alone (box st t) k ms
