-- The lone box (document 01, "Demand 3's list and the lone box"): one arm with its own tables. It is fed the
-- calls addressed to that arm. It shares with the box only the reading of frames and requests, where they are
-- wrong, the forming of replies, what a bit of a byte is, how ones are counted, and the form of a record with a table for
-- each kind.
use Rattle.std.specs.Prelude.{ℕ, ◌-◌, ◌/◌, ◌%◌, List, [], ◌∷◌, get_or, set, replicate, ℤ, pos, nat_abs}
use Rattle.frame.specs.Frame.{read_frame, frame_of}
use Rattle.commands.specs.declared.request.Load.{Load}
use Rattle.commands.specs.declared.request.Load.TheVariants as load
use Rattle.commands.specs.declared.request.Store.{Store}
use Rattle.commands.specs.declared.request.Store.TheVariants as store
use Rattle.commands.specs.declared.request.Request.{Request}
use Rattle.commands.specs.declared.request.Request.TheVariants as request
use Rattle.replies.specs.declared.reply.Data.TheVariants as held
use Rattle.bodies.specs.Body.{Judged}
use Rattle.bodies.specs.Body as judged
use Rattle.bodies.specs.Body.{read_body}
use Rattle.bodies.specs.Position.{body_position}
use Rattle.replies.specs.declared.reply.Outcome.{Outcome}
use Rattle.replies.specs.declared.reply.Outcome.TheVariants as outcome
use Rattle.replies.specs.Reply.{step_outcome, number_in, performed_text, refusal_text, done_text}
use Rattle.steps.specs.Step.{texts_of}
use Rattle.ports.specs.Bits.{bit, with_bit}
use Rattle.ports.specs.On.{signals_on}
use Rattle.tables.specs.Tables.{PerKind, each_field, each_with, as_row, tables, with_timers, with_registers, with_rows, with_inputs, with_outputs, with_memory, with_programs}
use Rattle.model.specs.Call.{Answer, no_reply, the_count}

-- 16 timers, 64 registers, 100 rows, 32 input, 32 output and 16 memory ports; it keeps no number of outputs that are on; and 256
-- steps, each the texts of its command and its data as characters, nothing for one never written
abbrev pub Arm : Type 0
Arm = PerKind (List ℕ) (List ℤ) Unit (List (List (List ℕ)))

-- all zero at first, and no step written
unfoldable pub zero_arm : Arm
zero_arm =
    tables (replicate 16 0) (replicate 64 0)
    (replicate 100 (pos 0)) (replicate 100 (pos 0)) (replicate 100 (pos 0)) (replicate 100 (pos 0))
    (replicate 32 0) (replicate 32 0) (replicate 16 0) tt (replicate 256 [])

-- a serving call's slice; an input call's port and byte; the question how many outputs are on
pub data Event : Type 0 where
  frame_in : List ℕ → Event
  port_in : ℕ → ℕ → Event
  count_in : Event

-- a signal is bit n % 8 of port n / 8
abbrev pub signal_in : List ℕ → ℕ → ℕ
signal_in ports n = bit (get_or ports (n / 8) 0) (n % 8)

abbrev pub with_signal : List ℕ → ℕ → ℕ → List ℕ
with_signal ports n v = set ports (n / 8) (with_bit (get_or ports (n / 8) 0) (n % 8) v)

-- what is held under a number: data, or for a step never written 16 EMPTY
unfoldable pub holds : Arm → Load → Outcome
holds a (load.Timer n) = outcome.Data (held.Timer (pos (get_or a.timers n 0)))
holds a (load.Register n) = outcome.Data (held.Register (pos (get_or a.registers n 0)))
holds a (load.Row n) = outcome.Data (held.Row (as_row (each_field (λ c. get_or c n (pos 0)) a.rows)))
holds a (load.Input g) = outcome.Data (held.Signal (pos (signal_in a.inputs g.0)))
holds a (load.InputPort p) = outcome.Data (held.Port (pos (get_or a.inputs p.0 0)))
holds a (load.Output g) = outcome.Data (held.Signal (pos (signal_in a.outputs g.0)))
holds a (load.OutputPort p) = outcome.Data (held.Port (pos (get_or a.outputs p.0 0)))
holds a (load.MemoryBit g) = outcome.Data (held.Signal (pos (signal_in a.memory (g.0 - 256))))
holds a (load.MemoryPort p) = outcome.Data (held.Port (pos (get_or a.memory p.0 0)))
holds a (load.Step n) = step_outcome n (get_or a.programs n [])

-- the data replace what is held under the number, and nothing else changes
unfoldable pub replaced : Arm → Store → Arm
replaced a (store.Timer n v) = with_timers a (set a.timers n (nat_abs v))
replaced a (store.Register n v) = with_registers a (set a.registers n (nat_abs v))
replaced a (store.Row n r) = with_rows a (each_with (λ c v. set c n v) a.rows r)
replaced a (store.Output g v) = with_outputs a (with_signal a.outputs g.0 (nat_abs v))
replaced a (store.OutputPort p v) = with_outputs a (set a.outputs p.0 (nat_abs v))
replaced a (store.MemoryBit g v) = with_memory a (with_signal a.memory (g.0 - 256) (nat_abs v))
replaced a (store.MemoryPort p v) = with_memory a (set a.memory p.0 (nat_abs v))
replaced a (store.Step n s) = with_programs a (set a.programs n (texts_of s))

pub record Step : Type 0 where
  pub arm : Arm
  pub answer : Answer

-- an accepted LN replies what is held, with the number 16 for EMPTY, an accepted SN "00"
abbrev pub answer_request : ℕ → Arm → Request → Step
answer_request own a (request.Load l) =
    record { arm = a; answer = record { number = number_in (holds a l); position = 0; reply = frame_of own (performed_text (holds a l)) } }
answer_request own a (request.Store q) =
    record { arm = replaced a q; answer = record { number = 0; position = 0; reply = frame_of own done_text } }

-- a check after 8 refuses the slice: its number, its position and its reply, and nothing changes
abbrev pub answer_body : List ℕ → ℕ → Arm → Judged → Step
answer_body slice own a (judged.Accepted r) = answer_request own a r
answer_body slice own a (judged.Refused n store) =
    record { arm = a; answer = record { number = n; position = body_position slice n; reply = frame_of own (refusal_text n store) } }

-- the station of the arm, the arm, and what happens
unfoldable pub step : ℕ → Arm → Event → Step
step own a (frame_in slice) = answer_body slice own a (read_body (read_frame slice).body)
step own a (port_in port byte) = record { arm = with_inputs a (set a.inputs port byte); answer = no_reply 0 0 }
step own a count_in = record { arm = a; answer = the_count (signals_on 32 a.outputs) }

unfoldable pub run_lone : ℕ → Arm → List Event → Arm
run_lone own a [] = a
run_lone own a (e ∷ es) = run_lone own (step own a e).arm es

unfoldable pub answers_lone : ℕ → Arm → List Event → List Answer
answers_lone own a [] = []
answers_lone own a (e ∷ es) = (step own a e).answer ∷ answers_lone own (step own a e).arm es
