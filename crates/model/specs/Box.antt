-- The box (document 01's term for the gateway with its tables): four slots, their stations and tables, and
-- what a call does. `decide` makes every test, from the call, the stations and the length of the memory that is
-- lent for the START programs alone; `perform` and `respond` go by its cases and make none.
use Rattle.std.specs.Prelude.{ℕ, zero, suc, Bool, false, cond, not, List, [], ◌∷◌, length, get_or, replicate, ltb, eqb}
use Rattle.frame.specs.Frame.{Reading, read_frame, frame_position, frame_of}
use Rattle.commands.specs.declared.request.Request.{Request}
use Rattle.bodies.specs.Body.{Judged}
use Rattle.bodies.specs.Body as judged
use Rattle.bodies.specs.Body.{read_body}
use Rattle.bodies.specs.Position.{body_position}
use Rattle.replies.specs.declared.reply.Outcome.{Outcome}
use Rattle.replies.specs.Reply.{number_in, performed_text, refusal_text}
use Rattle.tables.specs.Tables.{Tables, with_inputs, set2, performed, outcome_at, zeros}
use Rattle.model.specs.Call.{Call, serve, input, outputs_on, Answer, no_reply, the_count}
use Rattle.programs.specs.Memory.{size}
use Rattle.model.specs.Setup.{setup_refusal}

-- a station of 0 leaves its slot unfitted
pub record Box : Type 0 where
  pub stations : List ℕ
  pub tables : Tables

abbrev pub box : List ℕ → Tables → Box
box st t = record { stations = st; tables = t }

-- ---- setup

-- the box that setup yields of the station numbers and the memory as it is lent: every table zero, and the memory cleared;
-- refused, with no arm fitted, and the memory as it was
unfoldable pub setup : List ℕ → List ℕ → Box
setup want m =
    let ok = eqb (setup_refusal want m) 0 in
    record { stations = cond ok want (replicate 4 0); tables = zeros (cond ok (replicate size 0) m) }

-- ---- what is decided of a call

-- the first slot that has a station
pub data Slot : Type 0 where
  nowhere : Slot
  at : ℕ → Slot

-- of the m slots from i on
unfoldable pub scan : List ℕ → ℕ → ℕ → ℕ → Slot
scan st s zero i = nowhere
scan st s (suc m) i = cond (eqb (get_or st i 0) s) (at i) (scan st s m (suc i))

unfoldable pub slot_of : List ℕ → ℕ → Slot
slot_of st s = cond (eqb s 0) nowhere (scan st s 4 0)

-- unanswered: refused with no reply, number, position. refused: slot, station, number, position, whether the name is an
-- SN's. accepted: slot, station, request. input_set: slot, input port, byte. count_asked: slot
pub data Decision : Type 0 where
  unanswered : ℕ → ℕ → Decision
  refused : ℕ → ℕ → ℕ → ℕ → Bool → Decision
  accepted : ℕ → ℕ → Request → Decision
  input_set : ℕ → ℕ → ℕ → Decision
  count_asked : ℕ → Decision

-- 9 to 12 of a slice
abbrev pub decide_body : List ℕ → ℕ → ℕ → Judged → Decision
decide_body slice k s (judged.Accepted r) = accepted k s r
decide_body slice k s (judged.Refused n store) = refused k s n (body_position slice n) store

-- 8 ABSENT
abbrev pub decide_slot : List ℕ → ℕ → List ℕ → Slot → Decision
decide_slot slice s body nowhere = unanswered 8 0
decide_slot slice s body (at k) = decide_body slice k s (read_body body)

-- 2 to 7
abbrev pub decide_frame : List ℕ → List ℕ → Reading → Decision
decide_frame slice st o =
    cond (eqb o.number 0) (decide_slot slice o.station o.body (slot_of st o.station))
    (unanswered o.number (frame_position slice o.number))

-- k is one of the four slots, and has an arm
unfoldable pub is_fitted : List ℕ → ℕ → Bool
is_fitted st k = cond (ltb 3 k) false (not (eqb (get_or st k 0) 0))

-- 14 INPUT of a slot that is not; else d
abbrev pub decide_fitted : List ℕ → ℕ → Decision → Decision
decide_fitted st k d = cond (is_fitted st k) d (unanswered 14 0)

-- the lent memory has its size, and the reply area room for a reply
unfoldable pub has_room : ℕ → ℕ → Bool
has_room lent room = cond (ltb room 64) false (eqb lent size)

-- 1 ROOM, then those; 14 INPUT. The stations, the length of the lent memory, and the call
unfoldable pub decide : List ℕ → ℕ → Call → Decision
decide st lent (serve slice room) = cond (has_room lent room) (decide_frame slice st (read_frame slice)) (unanswered 1 0)
decide st lent (input k port byte) = decide_fitted st k (cond (ltb 31 port) (unanswered 14 0) (input_set k port byte))
decide st lent (outputs_on k) = decide_fitted st k (count_asked k)

-- of a call on a box
abbrev pub decide_on : Box → Call → Decision
decide_on b c = decide b.stations (length b.tables.programs) c

-- ---- what is done and answered

abbrev pub perform_tables : Tables → Decision → Tables
perform_tables t (unanswered n p) = t
perform_tables t (refused k s n p store) = t
perform_tables t (accepted k s r) = performed k r t
perform_tables t (input_set k p v) = with_inputs t (set2 t.inputs k p v)
perform_tables t (count_asked k) = t

unfoldable pub perform : Box → Decision → Box
perform b d = record { stations = b.stations; tables = perform_tables b.tables d }

-- what a request that was performed is answered with: its number is 16 EMPTY (document 02, E3) or 0
abbrev pub answered : ℕ → Outcome → Answer
answered s o = record { number = number_in o; position = 0; reply = frame_of s (performed_text o) }

unfoldable pub respond : Box → Decision → Answer
respond b (unanswered n p) = no_reply n p
respond b (refused k s n p store) = record { number = n; position = p; reply = frame_of s (refusal_text n store) }
respond b (accepted k s r) = answered s (outcome_at k r b.tables)
respond b (input_set k p v) = no_reply 0 0
respond b (count_asked k) = the_count (get_or b.tables.on k 0)

-- the box that a call leaves, and its answer
unfoldable pub after : Box → Call → Box
after b c = perform b (decide_on b c)

unfoldable pub answer : Box → Call → Answer
answer b c = respond b (decide_on b c)

-- a list of calls, each given the box as the last one left it
unfoldable pub run : Box → List Call → Box
run b [] = b
run b (c ∷ cs) = run (after b c) cs
