-- The statement of specs/Answers.antt.
use Prim.Native.Nat.{ℕ}
use mathlib.Core.Path.{◌≡◌, refl}
use mathlib.Core.Bool.{Bool, true, false, cond}
use mathlib.Core.List.{List}
use mathlib.Core.Logic.{inl, inr}
use Rattle.std.specs.Prelude.{Option, None, Some}
use lib.Dec.{eqb}
use lib.ListN.{length, get_or, drop}
use Rattle.text.specs.Whole.{read_whole}
use Rattle.frame.specs.Fields.{fields}
use Rattle.frame.specs.Frame.{read_frame, frame_position}
use Rattle.commands.specs.declared.table.Kind.TheVariants as kind
use Rattle.commands.specs.declared.table.Form.{Form}
use Rattle.commands.specs.declared.table.Form.TheVariants.{Numbers, Texts}
use Rattle.commands.specs.declared.table.Rule.{Rule}
use Rattle.commands.specs.declared.request.Payload.{Payload}
use Rattle.commands.specs.Request.{parts_of}
use Rattle.data.specs.Ranges.{in_ranges}
use Rattle.replies.specs.declared.reply.Outcome.{Outcome}
use Rattle.replies.specs.declared.reply.Outcome.TheVariants as outcome
use Rattle.reply_reader.specs.Reader.{data_of, as_status, read_status, read_content, as_data, read_load_outcome, read_outcome}
use Rattle.harl.specs.Message.{ReplyReading, rule_for, judge_asked, from_carried, reply_in, no_outcome, read_reply}
use Rattle.readings.specs.Reply.{converted}
use Rattle.untyped.specs.Answers.{Answers, KindsAsked}

-- ---- what is read of a body

-- what a reading of a reply carries answers the rule
abbrev Fine : Rule → ReplyReading → Type 0
Fine rule r = Answers rule (converted r).carries

either : (rule : Rule) (b : Bool) (x y : ReplyReading) → Fine rule x → Fine rule y → Fine rule (cond b x y)
either rule true x y p q = p
either rule false x y p q = q

either_carried : (rule : Rule) (b : Bool) (x y : Option Outcome) → Fine rule (from_carried x) → Fine rule (from_carried y) → Fine rule (from_carried (cond b x y))
either_carried rule true x y p q = p
either_carried rule false x y p q = q

status_fine : (rule : Rule) (s : List ℕ) → Fine rule (from_carried (read_status s))
unfolding read_status
status_fine rule s =
    either_carried rule (eqb (length s) 2) (as_status (read_whole s)) None (go (read_whole s)) tt
  where
    go : (v : Option ℕ) → Fine rule (from_carried (as_status v))
    go (Some n) = inr refl
    go None = tt

data_kind : (rule : Rule) (n : ℕ) (p : Payload) → rule.store ≡ false → Fine rule (from_carried (Some (outcome.Data (data_of rule.form n p))))
data_kind rule n p h = rw h (go rule.form)
  where
    go : (f : Form) → Answers (record { store = false; form = f; first = 0; last = 0 }) (converted (from_carried (Some (outcome.Data (data_of f n p))))).carries
    go (Numbers kind.Timer) = inl refl
    go (Numbers kind.Register) = inl refl
    go (Numbers kind.Row) = inl refl
    go (Numbers kind.Signal) = inl refl
    go (Numbers kind.Port) = inl refl
    go Texts = inl refl

data_fine : (rule : Rule) (n : ℕ) (o : Option Payload) → rule.store ≡ false → Fine rule (from_carried (as_data rule.form n o))
data_fine rule n None h = tt
data_fine rule n (Some p) h =
    either_carried rule (in_ranges rule.form p) (Some (outcome.Data (data_of rule.form n p))) None (data_kind rule n p h) tt

load_fine : (rule : Rule) (n : ℕ) (s : List ℕ) → rule.store ≡ false → Fine rule (from_carried (read_load_outcome rule.form n s))
unfolding read_load_outcome
load_fine rule n s h =
    either_carried rule (eqb (get_or s 0 0) 69) (read_status (drop 1 s)) (as_data rule.form n (read_content rule.form n (fields s))) (status_fine rule (drop 1 s)) (data_fine rule n (read_content rule.form n (fields s)) h)

outcome_fine : (rule : Rule) (n : ℕ) (s : List ℕ) → Fine rule (from_carried (read_outcome rule n s))
outcome_fine rule n s = go rule.store refl
  where
    go : (t : Bool) → rule.store ≡ t → Fine rule (from_carried (cond t (read_status s) (read_load_outcome rule.form n s)))
    go true h = status_fine rule s
    go false h = load_fine rule n s h

-- ---- and of a slice

pub kinds_asked : KindsAsked
unfolding read_reply
kinds_asked s station r =
    let rule = rule_for r in
    let f = read_frame s in
    let o = from_carried (read_outcome rule (parts_of r).number f.body) in
    either rule (eqb (judge_asked station r) 0) (reply_in s f station r) (no_outcome (judge_asked station r) 0)
    (either rule (eqb f.number 0) (cond (eqb f.station station) o (no_outcome 15 0)) (no_outcome f.number (frame_position s f.number))
    (either rule (eqb f.station station) o (no_outcome 15 0) (outcome_fine rule (parts_of r).number f.body) tt) tt) tt
