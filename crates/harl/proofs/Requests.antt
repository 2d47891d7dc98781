-- Every request that can be written reads back as itself.
use Prim.Native.Nat.{ℕ, ◌+◌, ◌≤◌, ◌<◌}
use mathlib.Core.Path.{◌≡◌, refl, ap}
use mathlib.Core.Bool.{Bool, true, false, cond, ◌||◌}
use mathlib.Core.List.{List, [], ◌∷◌, ◌++◌, append-nil}
use Rattle.std.specs.Prelude.{Some}
use native.Mathlib.Omega.{arith}
use borrow.Author.Tests.{ltb-true, ltb-false, eqb-false}
use lib.Dec.{ltb, eqb}
use lib.ListN.{length}
use Rattle.text.specs.Scan.{until}
use Rattle.text.specs.Whole.{digit, leading, shortest}
use Rattle.text.proofs.Laws.{Skips, skips_all, skips_cons, skips_append}
use Rattle.text.proofs.Digits.{read_shortest, shortest_skips}
use Rattle.frame.specs.Fields.{fields}
use Rattle.frame.specs.Frame.{is_stray, stray}
use Rattle.frame.proofs.Laws.{fields_cons, fields_one}
use Rattle.frame.proofs.Reading.{digit_clean}
use Rattle.frame.proofs.Short.{frame_back}
use Rattle.names.specs.declared.command.Command.{Command}
use Rattle.names.specs.declared.command.Command.TheVariants.{Lnt, Snt, Lnd, Snd, Lnl, Snl, Lnib, Lnob, Snob, Lnid, Lnod, Snod, Lnbb, Snbb, Lnbd, Snbd, Lna, Sna}
use Rattle.commands.specs.declared.table.Form.{Form}
use Rattle.commands.specs.declared.table.Rule.{Rule}
use Rattle.commands.specs.declared.request.Payload.{Payload}
use Rattle.commands.specs.declared.request.Payload.TheVariants as payload
use Rattle.commands.specs.declared.request.Load.TheVariants as load
use Rattle.commands.specs.declared.request.Store.TheVariants as store
use Rattle.commands.specs.declared.request.Request.{Request}
use Rattle.commands.specs.declared.request.Request.TheVariants as request
use Rattle.commands.specs.declared.request.Parts.{Parts}
use Rattle.bodies.specs.Body.{Accepted}
use Rattle.names.specs.Command.{name_of}
use Rattle.commands.specs.Table.{rule_of}
use Rattle.names.proofs.Names.{name, name_solid}
use Rattle.commands.specs.Request.{parts_of, request_of}
use Rattle.data.specs.Ranges.{in_ranges, data_fit, judge}
use Rattle.data.specs.Data.{data_text}
use Rattle.bodies.specs.Body.{data_shape, read_shape, request_or_refusal, read_body, data_part, body_text}
use Rattle.harl.specs.Message.{rule_for, judge_asked, read_request, write_request}
use Rattle.harl.specs.Back.{RequestsReadBack}
use Rattle.harl.proofs.Laws.{check_passed, neither}
use Rattle.bodies.proofs.Bodies.{body_length}
use Rattle.data.proofs.Bounds.{passed}
use Rattle.numbers.proofs.Texts.{shortest_solid}
use Rattle.data.proofs.Texts.{most_bytes, data_clean, kept, data_back}

-- ---- the commands, by computation

-- the name has no stray byte, the numbers have at most 4 digits, and the name, the last number and the data have at most
-- 51 bytes with an SP before the data
pub record Sound (c : Command) : Type 0 where
  pub clean : stray (name_of c) ≡ length (name_of c)
  pub small : ltb (rule_of c).last 10000 ≡ true
  pub short : ltb (length (name_of c) + (length (shortest (rule_of c).last) + (1 + most_bytes (rule_of c).form))) 52 ≡ true

pub sound : (c : Command) → Sound c
unfolding name_of until shortest leading digit
sound Lnt = record { clean = refl; small = refl; short = refl }
sound Snt = record { clean = refl; small = refl; short = refl }
sound Lnd = record { clean = refl; small = refl; short = refl }
sound Snd = record { clean = refl; small = refl; short = refl }
sound Lnl = record { clean = refl; small = refl; short = refl }
sound Snl = record { clean = refl; small = refl; short = refl }
sound Lnib = record { clean = refl; small = refl; short = refl }
sound Lnob = record { clean = refl; small = refl; short = refl }
sound Snob = record { clean = refl; small = refl; short = refl }
sound Lnid = record { clean = refl; small = refl; short = refl }
sound Lnod = record { clean = refl; small = refl; short = refl }
sound Snod = record { clean = refl; small = refl; short = refl }
sound Lnbb = record { clean = refl; small = refl; short = refl }
sound Snbb = record { clean = refl; small = refl; short = refl }
sound Lnbd = record { clean = refl; small = refl; short = refl }
sound Snbd = record { clean = refl; small = refl; short = refl }
sound Lna = record { clean = refl; small = refl; short = refl }
sound Sna = record { clean = refl; small = refl; short = refl }

name_clean : (c : Command) → Skips is_stray (name_of c)
name_clean c = skips_all is_stray (name_of c) (sound c).clean

-- what a body gives of the data: those of an SN, and none of an LN
abbrev given : Bool → Form → Payload → Payload
given true f p = kept f p
given false f p = payload.None

-- a request has the data that its body gives, and is what its parts make
record Parted (r : Request) : Type 0 where
  payload_is : given (rule_for r).store (rule_for r).form (parts_of r).payload ≡ (parts_of r).payload
  made : request_of (parts_of r) ≡ r

parted : (r : Request) → Parted r
parted (request.Load (load.Timer n)) = record { payload_is = refl; made = refl }
parted (request.Load (load.Register n)) = record { payload_is = refl; made = refl }
parted (request.Load (load.Row n)) = record { payload_is = refl; made = refl }
parted (request.Load (load.Input s)) = record { payload_is = refl; made = refl }
parted (request.Load (load.InputPort p)) = record { payload_is = refl; made = refl }
parted (request.Load (load.Output s)) = record { payload_is = refl; made = refl }
parted (request.Load (load.OutputPort p)) = record { payload_is = refl; made = refl }
parted (request.Load (load.MemoryBit s)) = record { payload_is = refl; made = refl }
parted (request.Load (load.MemoryPort p)) = record { payload_is = refl; made = refl }
parted (request.Load (load.Step n)) = record { payload_is = refl; made = refl }
parted (request.Store (store.Timer n v)) = record { payload_is = refl; made = refl }
parted (request.Store (store.Register n v)) = record { payload_is = refl; made = refl }
parted (request.Store (store.Row n r)) = record { payload_is = refl; made = refl }
parted (request.Store (store.Output s v)) = record { payload_is = refl; made = refl }
parted (request.Store (store.OutputPort p v)) = record { payload_is = refl; made = refl }
parted (request.Store (store.MemoryBit s v)) = record { payload_is = refl; made = refl }
parted (request.Store (store.MemoryPort p v)) = record { payload_is = refl; made = refl }
parted (request.Store (store.Step n s)) = record { payload_is = refl; made = refl }

-- ---- the fields after the name

-- the fields after the number
abbrev data_fields : Bool → Form → Payload → List (List ℕ)
data_fields true f p = fields (data_text f p)
data_fields false f p = []

number_fields : (t : Bool) (f : Form) (n : ℕ) (p : Payload) → fields (shortest n ++ data_part t f p) ≡ shortest n ∷ data_fields t f p
number_fields true f n p = fields_cons (shortest n) (data_text f p) (shortest_solid n)
number_fields false f n p = rw (append-nil (shortest n)) (fields_one (shortest n) (shortest_solid n))

given_back : (t : Bool) (f : Form) (p : Payload) → cond t (in_ranges f p) true ≡ true → data_shape t f (data_fields t f p) ≡ Some (given t f p)
given_back true f p e = data_back f p e
given_back false f p e = refl

shape_back : (rule : Rule) (n : ℕ) (p : Payload) → n < 10000 → data_fit rule p ≡ true → read_shape rule (fields (shortest n ++ data_part rule.store rule.form p)) ≡ Some (n, given rule.store rule.form p)
unfolding read_shape
shape_back rule n p h e =
    rw (number_fields rule.store rule.form n p, read_shortest n h, given_back rule.store rule.form p e)

-- ---- the body

-- the number has at most 4 digits, and the data are in range
pub judged_ok : (c : Command) (n : ℕ) (r : Payload) → judge (rule_of c) n r ≡ 0 → (n < 10000) × (data_fit (rule_of c) r ≡ true)
judged_ok c n r e =
    let p = passed (rule_of c) n r e in
    (omega (arith, p.high, ltb-true (rule_of c).last 10000 (sound c).small), p.payload)

body_back : (r : Request) → judge (rule_for r) (parts_of r).number (parts_of r).payload ≡ 0 → read_body (body_text (parts_of r)) ≡ Accepted r
unfolding read_body body_text request_or_refusal
body_back r e =
    let c : Command = (parts_of r).command in
    let n : ℕ = (parts_of r).number in
    let v : Payload = (parts_of r).payload in
    let p = judged_ok c n v e in
    rw (
      fields_cons (name_of c) (shortest n ++ data_part (rule_of c).store (rule_of c).form v) (name_solid c),
      (name c).named,
      shape_back (rule_of c) n v p.0 p.1,
      (parted r).payload_is,
      e,
    )
    (ap Accepted (parted r).made)

part_clean : (t : Bool) (f : Form) (p : Payload) → Skips is_stray (data_part t f p)
part_clean true f p = skips_cons is_stray 32 (data_text f p) refl (data_clean f p)
part_clean false f p = λ bs. omega arith

body_clean : (p : Parts) → Skips is_stray (body_text p)
unfolding body_text
body_clean p =
    let rule : Rule = rule_of p.command in
    let d : List ℕ = data_part rule.store rule.form p.payload in
    let n : List ℕ = shortest p.number ++ d in
    skips_append is_stray (name_of p.command) (32 ∷ n) (name_clean p.command)
    (skips_cons is_stray 32 n refl
    (skips_append is_stray (shortest p.number) d (shortest_skips is_stray digit_clean p.number)
    (part_clean rule.store rule.form p.payload)))

-- ---- the frame

-- the station is from 1 to 99, and the request is in range
pub asked_ok : (st : ℕ) (r : Request) → judge_asked st r ≡ 0 → ((1 ≤ st) × (st ≤ 99)) × (judge (rule_for r) (parts_of r).number (parts_of r).payload ≡ 0)
unfolding judge_asked
asked_ok st r e =
    let p = check_passed (eqb st 0 || ltb 99 st) 7 (judge (rule_for r) (parts_of r).number (parts_of r).payload) (omega arith) e in
    let q = neither (eqb st 0) (ltb 99 st) p.0 in
    let z = eqb-false st 0 q.0 in
    ((omega arith, ltb-false 99 st q.1), p.1)

pub requests_read_back : RequestsReadBack
unfolding write_request read_request
requests_read_back room st r e =
    let a = asked_ok st r (check_passed (ltb room 64) 1 (judge_asked st r) (omega arith) e).1 in
    let l = body_length (parts_of r) in
    rw (
      e,
      frame_back st (body_text (parts_of r)) a.0.0 a.0.1 (body_clean (parts_of r)) l.0 (omega arith),
      body_back r a.1,
    )
