-- A request that a body was accepted as is in range: its number and its data are judged 0.
use Prim.Native.Nat.{ℕ}
use mathlib.Core.Path.{◌≡◌, refl}
use mathlib.Core.Bool.{Bool, true, false, cond}
use mathlib.Core.List.{List, [], ◌∷◌}
use Rattle.std.specs.Prelude.{Option, None, Some}
use native.Mathlib.Omega.{arith}
use borrow.Author.Tests.{eqb-true}
use lib.Dec.{eqb}
use Rattle.names.specs.declared.command.Command.{Command}
use Rattle.names.specs.declared.command.Command.TheVariants.{Lnt, Snt, Lnd, Snd, Lnl, Snl, Lnib, Lnob, Snob, Lnid, Lnod, Snod, Lnbb, Snbb, Lnbd, Snbd, Lna, Sna}
use Rattle.commands.specs.declared.table.Kind.{Kind}
use Rattle.commands.specs.declared.table.Kind.TheVariants.{Timer, Register, Signal, Port}
use Rattle.commands.specs.declared.table.Form.TheVariants.{Numbers}
use Rattle.commands.specs.declared.table.Rule.{Rule}
use Rattle.commands.specs.declared.request.Payload.{Payload}
use Rattle.commands.specs.declared.request.Payload.TheVariants as payload
use Rattle.commands.specs.declared.request.Request.{Request}
use Rattle.names.specs.Command.{command_of}
use Rattle.commands.specs.Table.{loads, stores, rule_of}
use Rattle.commands.specs.Request.{one, row_in, step_in, builds}
use Rattle.bodies.specs.Body.{Accepted, Refused}
use Rattle.data.specs.Ranges.{in_ranges, judge}
use Rattle.bodies.specs.Body.{read_shape, request_or_refusal, shaped, after_name, of_fields, read_body}
use Rattle.harl.specs.Message.{judge_request}
use Rattle.numbers.proofs.Bounds.{all_x, one_in}
use Rattle.numbers.proofs.Where.{false_true}
use Rattle.data.proofs.Bounds.{passed, judged}
use Rattle.frame.specs.Fields.{fields}

-- ---- the parts of a built request are judged as what it was built of

-- an LN carries no data
pub bare : (rule : Rule) (n : ℕ) (p : Payload) → judge rule n p ≡ 0 → rule.store ≡ false → judge rule n payload.None ≡ 0
bare rule n p h e = let w = passed rule n p h in judged rule n payload.None w.low w.high (rw e)

-- an SN carries one value
module _ (k : Kind) (first last n : ℕ) where
  abbrev sn : Rule
  sn = stores (loads (Numbers k) first last)

  valued : (p : Payload) → judge sn n p ≡ 0 → judge sn n (payload.Numbers (one (row_in p).x)) ≡ 0
  valued p h = let w = passed sn n p h in judged sn n (payload.Numbers (one (row_in p).x)) w.low w.high (go p w.payload)
    where
      go : (p : Payload) → in_ranges (Numbers k) p ≡ true → in_ranges (Numbers k) (payload.Numbers (one (row_in p).x)) ≡ true
      go payload.None e = false_true e
      go (payload.Numbers r) e = one_in k r.x (all_x k r e)
      go (payload.Texts s) e = false_true e

-- a row
rows_built : (n : ℕ) (p : Payload) → judge (rule_of Snl) n p ≡ 0 → judge (rule_of Snl) n (payload.Numbers (row_in p)) ≡ 0
rows_built n payload.None h = false_true (passed (rule_of Snl) n payload.None h).payload
rows_built n (payload.Numbers r) h = h
rows_built n (payload.Texts s) h = false_true (passed (rule_of Snl) n (payload.Texts s) h).payload

-- a step
steps_built : (n : ℕ) (p : Payload) → judge (rule_of Sna) n p ≡ 0 → judge (rule_of Sna) n (payload.Texts (step_in p)) ≡ 0
steps_built n payload.None h = false_true (passed (rule_of Sna) n payload.None h).payload
steps_built n (payload.Numbers r) h = false_true (passed (rule_of Sna) n (payload.Numbers r) h).payload
steps_built n (payload.Texts s) h = h

built : (c : Command) (n : ℕ) (p : Payload) → judge (rule_of c) n p ≡ 0 → judge_request (builds c n p) ≡ 0
built Lnt n p h = bare (rule_of Lnt) n p h refl
built Snt n p h = valued Timer 0 15 n p h
built Lnd n p h = bare (rule_of Lnd) n p h refl
built Snd n p h = valued Register 0 63 n p h
built Lnl n p h = bare (rule_of Lnl) n p h refl
built Snl n p h = rows_built n p h
built Lnib n p h = bare (rule_of Lnib) n p h refl
built Lnob n p h = bare (rule_of Lnob) n p h refl
built Snob n p h = valued Signal 0 255 n p h
built Lnid n p h = bare (rule_of Lnid) n p h refl
built Lnod n p h = bare (rule_of Lnod) n p h refl
built Snod n p h = valued Port 0 31 n p h
built Lnbb n p h = bare (rule_of Lnbb) n p h refl
built Snbb n p h = valued Signal 256 383 n p h
built Lnbd n p h = bare (rule_of Lnbd) n p h refl
built Snbd n p h = valued Port 0 15 n p h
built Lna n p h = bare (rule_of Lna) n p h refl
built Sna n p h = steps_built n p h

-- ---- what is accepted was judged 0

never : {A : Type 0} {n : ℕ} {t : Bool} {r : Request} → Refused n t ≡ Accepted r → A
never e = let z : ◌≡◌ {A = ℕ} 0 1 = cc in absurd (omega arith)

request_in_range : (c : Command) (n : ℕ) (row : Payload) (r : Request) → request_or_refusal c n row ≡ Accepted r → judge_request r ≡ 0
unfolding request_or_refusal
request_in_range c n row r e = go (eqb (judge (rule_of c) n row) 0) refl e
  where
    go : (t : Bool) → eqb (judge (rule_of c) n row) 0 ≡ t → cond t (Accepted (builds c n row)) (Refused (judge (rule_of c) n row) (rule_of c).store) ≡ Accepted r → judge_request r ≡ 0
    go true p q =
        let same : builds c n row ≡ r = cc in
        rw same at (built c n row (eqb-true (judge (rule_of c) n row) 0 p))
    go false p q = never q

shaped_in_range : (c : Command) (s : Option (ℕ × Payload)) (r : Request) → shaped c s ≡ Accepted r → judge_request r ≡ 0
shaped_in_range c (Some p) r e = request_in_range c p.0 p.1 r e
shaped_in_range c None r e = never e

named_in_range : (w : Option Command) (fs : List (List ℕ)) (r : Request) → after_name w fs ≡ Accepted r → judge_request r ≡ 0
named_in_range (Some c) fs r e = shaped_in_range c (read_shape (rule_of c) fs) r e
named_in_range None fs r e = never e

fields_in_range : (fs : List (List ℕ)) (r : Request) → of_fields fs ≡ Accepted r → judge_request r ≡ 0
fields_in_range [] r e = never e
fields_in_range (name ∷ fs) r e = named_in_range (command_of name) fs r e

pub accepted_in_range : (s : List ℕ) (r : Request) → read_body s ≡ Accepted r → judge_request r ≡ 0
unfolding read_body
accepted_in_range s r e = fields_in_range (fields s) r e
