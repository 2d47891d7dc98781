-- What holds of the position that the box answers: that of the slice read as a request, unless ROOM, ABSENT or EMPTY is told.
use Prim.Native.Nat.{ℕ}
use mathlib.Core.Path.{◌≡◌, refl}
use mathlib.Core.Bool.{Bool, true, false, cond}
use mathlib.Core.List.{List, [], ◌∷◌}
use lib.Dec.{ltb, eqb}
use lib.ListN.{length}
use Rattle.frame.specs.Frame.{Reading, read_frame, frame_position}
use Rattle.bodies.specs.Body.{Judged}
use Rattle.bodies.specs.Body as judged
use Rattle.commands.specs.declared.request.Load.TheVariants as load
use Rattle.commands.specs.declared.request.Request.{Request}
use Rattle.commands.specs.declared.request.Request.TheVariants as request
use Rattle.bodies.specs.Body.{read_body}
use Rattle.programs.specs.Memory.{step_at}
use Rattle.replies.specs.Reply.{step_outcome, number_in}
use Rattle.tables.specs.Tables.{Tables, loaded, outcome_at}
use Rattle.harl.specs.Message.{RequestReading, no_request, from_station, read_request}
use Rattle.harl.specs.Place.{tells, Told}
use Rattle.harl.proofs.Place.{nothing_told, requests_told}
use Rattle.model.specs.Box.{Box, Slot, nowhere, at, Decision, unanswered, count_asked, decide_body, decide_slot, is_fitted, decide_fitted, slot_of, has_room, decide, respond, answer}
use Rattle.model.specs.Place.{ServedTold, InputsTold, CountsTold}
use Rattle.model.proofs.Laws.{cond_has}

-- the position of a decision
abbrev At : Box → List ℕ → Decision → Type 0
At b slice d = Told slice (respond b d).number (respond b d).position

-- a request that was performed has number 0 or 16
step_silent : (n : ℕ) (ts : List (List ℕ)) → tells (number_in (step_outcome n ts)) ≡ false
step_silent n [] = refl
step_silent n (t ∷ ts) = refl

performed_silent : (k : ℕ) (r : Request) (t : Tables) → tells (number_in (outcome_at k r t)) ≡ false
unfolding loaded
performed_silent k (request.Load (load.Timer n)) t = refl
performed_silent k (request.Load (load.Register n)) t = refl
performed_silent k (request.Load (load.Row n)) t = refl
performed_silent k (request.Load (load.Input g)) t = refl
performed_silent k (request.Load (load.InputPort p)) t = refl
performed_silent k (request.Load (load.Output g)) t = refl
performed_silent k (request.Load (load.OutputPort p)) t = refl
performed_silent k (request.Load (load.MemoryBit g)) t = refl
performed_silent k (request.Load (load.MemoryPort p)) t = refl
performed_silent k (request.Load (load.Step n)) t = step_silent n (step_at t.programs k n)
performed_silent k (request.Store q) t = refl

module _ (b : Box) (slice : List ℕ) where
  abbrev frame : Reading
  frame = read_frame slice

  judged_told : (k : ℕ) (v : Judged) → Told slice (from_station slice frame.station v).number (from_station slice frame.station v).position → At b slice (decide_body slice k frame.station v)
  unfolding respond
  judged_told k (judged.Accepted r) h = nothing_told slice _ (performed_silent k r b.tables)
  judged_told k (judged.Refused n store) h = h

  frame_told :
      (t : Bool) (place : Slot) →
      let o : RequestReading = cond t (from_station slice frame.station (read_body frame.body)) (no_request frame.number (frame_position slice frame.number)) in
      Told slice o.number o.position →
      At b slice (cond t (decide_slot slice frame.station frame.body place) (unanswered frame.number (frame_position slice frame.number)))
  unfolding respond
  frame_told true nowhere h = nothing_told slice 8 refl
  frame_told true (at k) h = judged_told k (read_body frame.body) h
  frame_told false place h = h

pub served_told : ServedTold
unfolding read_request decide respond answer
served_told b slice room =
    cond_has (At b slice) (has_room (length b.tables.programs) room)
    (frame_told b slice (eqb (read_frame slice).number 0) (slot_of b.stations (read_frame slice).station) (requests_told slice))
    (nothing_told slice 1 refl)

-- a decision with no position
abbrev Silent : Box → Decision → Type 0
Silent b d = (respond b d).position ≡ 0

fitted_silent : (b : Box) (k : ℕ) (d : Decision) → Silent b d → Silent b (decide_fitted b.stations k d)
unfolding respond
fitted_silent b k d h = cond_has (Silent b) (is_fitted b.stations k) h refl

pub inputs_told : InputsTold
unfolding decide respond answer
inputs_told b k port byte = fitted_silent b k _ (cond_has (Silent b) (ltb 31 port) refl refl)

pub counts_told : CountsTold
unfolding decide respond answer
counts_told b k = fitted_silent b k (count_asked k) refl
