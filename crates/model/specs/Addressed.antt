-- Which calls are addressed to an arm (document 01, "Refusal numbers"), by the calls and the stations alone.
use Rattle.std.specs.Prelude.{ℕ, ◌<◌, ◌≡◌, Bool, cond, not, ◌&&◌, List, [], ◌∷◌, get_or, leb, eqb}
use Rattle.frame.specs.Frame.{read_frame}
use Rattle.programs.specs.Memory.{program}
use Rattle.tables.specs.Tables.{each_field}
use Rattle.model.specs.Call.{Call, serve, input, outputs_on, Answer}
use Rattle.model.specs.Box.{Box, after, answer}
use Rattle.model.specs.Lone.{Arm, Event, frame_in, port_in, count_in}

-- slot k has an arm
abbrev pub Fitted : ℕ → List ℕ → Type 0
Fitted k st = (k < 4) × (get_or st k 0 ≡ 0 → ⊥)

-- a serving call: checks 1 to 7 pass and the station is the arm's, so that 8 passes too; an input call, and one that asks
-- for the outputs that are on: it is not refused and its slot is the arm's. Check 1 asks for the size of the lent memory too,
-- which it has wherever an arm is fitted
unfoldable pub is_for : ℕ → List ℕ → Call → Bool
is_for k st (serve slice room) =
    leb 64 room && (eqb (read_frame slice).number 0 && eqb (read_frame slice).station (get_or st k 0))
is_for k st (input j port byte) = leb j 3 && (not (eqb (get_or st j 0) 0) && (leb port 31 && eqb j k))
is_for k st (outputs_on j) = leb j 3 && (not (eqb (get_or st j 0) 0) && eqb j k)

-- what the lone box is fed of a call
abbrev pub event_of : Call → Event
event_of (serve slice room) = frame_in slice
event_of (input j port byte) = port_in port byte
event_of (outputs_on j) = count_in

-- the calls addressed to the arm of slot k, in order
unfoldable pub events_for : ℕ → List ℕ → List Call → List Event
events_for k st [] = []
events_for k st (c ∷ cs) = cond (is_for k st c) (event_of c ∷ events_for k st cs) (events_for k st cs)

-- the answers that the box gives to them
unfoldable pub answers_to : ℕ → Box → List Call → List Answer
answers_to k b [] = []
answers_to k b (c ∷ cs) =
    cond (is_for k b.stations c) (answer b c ∷ answers_to k (after b c) cs) (answers_to k (after b c) cs)

-- the tables of slot k's arm and its steps, without the number that is kept of it
abbrev pub arm_of : ℕ → Box → Arm
arm_of k b =
    record {
      timers = get_or b.tables.timers k [];
      registers = get_or b.tables.registers k [];
      rows = each_field (λ t. get_or t k []) b.tables.rows;
      inputs = get_or b.tables.inputs k [];
      outputs = get_or b.tables.outputs k [];
      memory = get_or b.tables.memory k [];
      on = tt;
      programs = program k b.tables.programs;
    }
