-- A typed request that is written, served and answered: its reply reads as what the arm holds, and what it stores is arm_after.
use Prim.Native.Nat.{ℕ, ◌≤◌}
use mathlib.Core.Path.{◌≡◌, refl, sym, ap, ◌∙◌}
use mathlib.Core.Bool.{true, false}
use mathlib.Core.List.{List, [], ◌∷◌}
use borrow.Author.Tests.{le-leb, eq-eqb}
use lib.Dec.{eqb}
use lib.ListN.{length, get_or}
use Rattle.text.specs.Whole.{digit}
use Rattle.frame.specs.Frame.{frame_of}
use Rattle.commands.specs.declared.table.Kind.{Kind}
use Rattle.commands.specs.declared.table.Kind.TheVariants as kind
use Rattle.commands.specs.declared.table.Form.TheVariants.{Numbers}
use Rattle.commands.specs.declared.request.Load.{Load}
use Rattle.commands.specs.declared.request.Load.TheVariants as load
use Rattle.commands.specs.declared.request.Store.{Store}
use Rattle.commands.specs.declared.request.Store.TheVariants as store
use Rattle.commands.specs.declared.request.Request.{Request}
use Rattle.commands.specs.declared.request.Request.TheVariants as request
use Rattle.commands.specs.Request.{parts_of}
use Rattle.steps.specs.Step.{typed_of}
use Rattle.replies.specs.declared.reply.Data.{Data}
use Rattle.replies.specs.declared.reply.Data.TheVariants as held
use Rattle.replies.specs.declared.reply.Outcome.{Outcome}
use Rattle.replies.specs.declared.reply.Outcome.TheVariants as outcome
use Rattle.data.specs.Ranges.{in_ranges}
use Rattle.replies.specs.Reply.{content_of, status_text, step_outcome, number_in, performed_text}
use Rattle.reply_writer.specs.Writer.{judge_outcome, outcome_text}
use Rattle.harl.specs.Message.{rule_for, write_request}
use Rattle.programs.specs.Memory.{size, program}
use Rattle.model.specs.Call.{Call, serve}
use Rattle.model.specs.Box.{Box, setup, run}
use Rattle.model.specs.Lone.{Arm, holds, answer_request, step}
use Rattle.model.specs.Addressed.{Fitted, is_for, arm_of}
use Rattle.model.specs.Ranges.{InRange}
use Rattle.model.specs.EndToEnd.{outcome_of, arm_after, Exchanged, EndToEnd}
use Rattle.numbers.proofs.Bounds.{one_in}
use Rattle.model.proofs.Programs.{program_step}
use Rattle.model.proofs.Laws.{row_in, bit_in, written_frame, written_in, fitting_in, outcome_back}
use Rattle.model.proofs.Slots.{Apart, setup_apart}
use Rattle.model.proofs.Counts.{Tallied}
use Rattle.model.proofs.Isolation.{after_same, run_stations, run_size, always_tallied}
use Rattle.model.proofs.Ranges.{always_in_range}

-- ---- what the lone box does with a request

store_rule : (q : Store) → (rule_for (request.Store q)).store ≡ true
store_rule (store.Timer n v) = refl
store_rule (store.Register n v) = refl
store_rule (store.Row n r) = refl
store_rule (store.Output g v) = refl
store_rule (store.OutputPort p v) = refl
store_rule (store.MemoryBit g v) = refl
store_rule (store.MemoryPort p v) = refl
store_rule (store.Step n s) = refl

-- a load answers data, or a status that is not 0
abbrev Loads : Outcome → Type 0
Loads (outcome.Data d) = Unit
Loads (outcome.Status n) = eqb n 0 ≡ false

step_loads : (n : ℕ) (ts : List (List ℕ)) → Loads (step_outcome n ts)
step_loads n [] = refl
step_loads n (t ∷ ts) = tt

holds_loads : (a : Arm) (l : Load) → Loads (holds a l)
unfolding holds
holds_loads a (load.Timer n) = tt
holds_loads a (load.Register n) = tt
holds_loads a (load.Row n) = tt
holds_loads a (load.Input g) = tt
holds_loads a (load.InputPort p) = tt
holds_loads a (load.Output g) = tt
holds_loads a (load.OutputPort p) = tt
holds_loads a (load.MemoryBit g) = tt
holds_loads a (load.MemoryPort p) = tt
holds_loads a (load.Step n) = step_loads n (get_or a.programs n [])

load_rule : (l : Load) → (rule_for (request.Load l)).store ≡ false
load_rule (load.Timer n) = refl
load_rule (load.Register n) = refl
load_rule (load.Row n) = refl
load_rule (load.Input g) = refl
load_rule (load.InputPort p) = refl
load_rule (load.Output g) = refl
load_rule (load.OutputPort p) = refl
load_rule (load.MemoryBit g) = refl
load_rule (load.MemoryPort p) = refl
load_rule (load.Step n) = refl

-- what replies to a load is its outcome as that of an LN
load_text : (o : Outcome) → Loads o → performed_text o ≡ outcome_text false o
unfolding outcome_text
load_text (outcome.Data d) h = refl
load_text (outcome.Status n) h = rw h

answered_as : (s : ℕ) (a : Arm) (r : Request)
    → answer_request s a r ≡ record { arm = arm_after a r; answer = record { number = number_in (outcome_of a r); position = 0; reply = frame_of s (outcome_text (rule_for r).store (outcome_of a r)) } }
unfolding outcome_text status_text digit
answered_as s a (request.Load l) = rw (load_rule l, load_text (holds a l) (holds_loads a l))
answered_as s a (request.Store q) = rw (store_rule q)

-- ---- what it answers can be written

module _ (b : Box) (k : ℕ) (h : InRange b.tables) where
  -- the texts of a step are a step, whatever the bytes are
  step_in_lem : (n : ℕ) → judge_outcome (rule_for (request.Load (load.Step n))) n (step_outcome n (get_or (program k b.tables.programs) n [])) ≡ 0
  unfolding judge_outcome
  step_in_lem n = go (get_or (program k b.tables.programs) n []) refl
    where
      go : (ts : List (List ℕ)) → get_or (program k b.tables.programs) n [] ≡ ts → judge_outcome (rule_for (request.Load (load.Step n))) n (step_outcome n ts) ≡ 0
      go [] e = refl
      go (t ∷ ts) e =
          fitting_in (rule_for (request.Load (load.Step n))) n (held.Step n (typed_of (t ∷ ts)))
          (record { loads = refl; form = refl; number = eq-eqb n n refl; range = program_step b.tables.programs k n t ts e })

  fits : (l : Load) (c : Kind) (d : Data) → (rule_for (request.Load l)).store ≡ false → (rule_for (request.Load l)).form ≡ Numbers c → (content_of d).form ≡ Numbers c → in_ranges (Numbers c) (content_of d).payload ≡ true → judge_outcome (rule_for (request.Load l)) (parts_of (request.Load l)).number (outcome.Data d) ≡ 0
  fits l c d store form kind range =
      fitting_in (rule_for (request.Load l)) (parts_of (request.Load l)).number d
      (record { loads = store; form = kind ∙ sym form; number = rw form; range = rw form range })

  held_in_lem : (l : Load) → judge_outcome (rule_for (request.Load l)) (parts_of (request.Load l)).number (holds (arm_of k b) l) ≡ 0
  unfolding holds
  held_in_lem (load.Timer n) = fits (load.Timer n) kind.Timer _ refl refl refl (one_in kind.Timer _ (h.timers k n))
  held_in_lem (load.Register n) = fits (load.Register n) kind.Register _ refl refl refl (one_in kind.Register _ (h.registers k n))
  held_in_lem (load.Row n) = fits (load.Row n) kind.Row _ refl refl refl (row_in _ (let c = h.rows in record { x = c.x k n; y = c.y k n; z = c.z k n; w = c.w k n }))
  held_in_lem (load.Input g) = fits (load.Input g) kind.Signal _ refl refl refl (bit_in _)
  held_in_lem (load.InputPort p) = fits (load.InputPort p) kind.Port _ refl refl refl (one_in kind.Port _ (h.inputs k p.0))
  held_in_lem (load.Output g) = fits (load.Output g) kind.Signal _ refl refl refl (bit_in _)
  held_in_lem (load.OutputPort p) = fits (load.OutputPort p) kind.Port _ refl refl refl (one_in kind.Port _ (h.outputs k p.0))
  held_in_lem (load.MemoryBit g) = fits (load.MemoryBit g) kind.Signal _ refl refl refl (bit_in _)
  held_in_lem (load.MemoryPort p) = fits (load.MemoryPort p) kind.Port _ refl refl refl (one_in kind.Port _ (h.memory k p.0))
  held_in_lem (load.Step n) = step_in_lem n

  outcome_in_lem : (r : Request) → judge_outcome (rule_for r) (parts_of r).number (outcome_of (arm_of k b) r) ≡ 0
  unfolding judge_outcome
  outcome_in_lem (request.Load l) = held_in_lem l
  outcome_in_lem (request.Store q) = refl

-- ---- end to end

-- on a box that has what setup and calls leave
pub exchanged : (b : Box) (k s : ℕ) (r : Request) (area room : ℕ)
    → get_or b.stations k 0 ≡ s → Apart b.stations → Fitted k b.stations → length b.tables.programs ≡ size → Tallied b.tables → InRange b.tables
    → (write_request area s r).number ≡ 0 → 64 ≤ room
    → Exchanged b k s r (serve (write_request area s r).bytes room)
unfolding is_for step
exchanged b k s r area room own g f z h i e l =
    let c : Call = serve (write_request area s r).bytes room in
    let w = written_frame area s r e in
    let mine : is_for k b.stations c ≡ true = rw (le-leb 64 room l, w.number, w.station, own) (eq-eqb s s refl) in
    let (p, q) = rw (own, w.body, answered_as s (arm_of k b) r) at (after_same b k c z g f h mine) in
    record {
      number = ap (λ x. x.number) q;
      reply = rw q (outcome_back s r (outcome_of (arm_of k b) r) (written_in area s r e) (outcome_in_lem b k i r));
      arm = p;
    }

pub end_to_end : EndToEnd
end_to_end want m cs k r area room bytes f e l =
    let b : Box = run (setup want m) cs in
    let st : b.stations ≡ (setup want m).stations = run_stations cs (setup want m) in
    exchanged b k (get_or (setup want m).stations k 0) r area room (rw st) (rw st (setup_apart want m)) (rw st f)
    (run_size want m cs k f) (always_tallied want m cs) (always_in_range want m cs bytes) e l
