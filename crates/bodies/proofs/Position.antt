-- Where a number or data out of range stand, with which numbers a body is refused, and where.
use Prim.Native.Nat.{ℕ, ◌-◌, ◌≤◌}
use mathlib.Core.Path.{◌≡◌, refl, sym}
use mathlib.Core.Bool.{Bool, true, false, cond, not}
use mathlib.Core.List.{List, [], ◌∷◌, map}
use mathlib.Core.Logic.{inl, inr}
use Rattle.std.specs.Prelude.{Option, None, Some}
use native.Mathlib.Omega.{arith}
use lib.Dec.{eqb}
use lib.ListN.{length, drop}
use Rattle.text.specs.Whole.{read_whole}
use Rattle.frame.specs.Fields.{first, more, fields, Placed, placed_more, placed, reads_as, start_of, offending}
use Rattle.frame.specs.Frame.{read_frame, body_start}
use Rattle.frame.proofs.Placed.{Pointed, offending_next, body_place, body_fields, body_offends}
use Rattle.names.specs.declared.command.Command.{Command}
use Rattle.commands.specs.declared.table.Form.{Form}
use Rattle.commands.specs.declared.table.Rule.{Rule}
use Rattle.commands.specs.declared.request.Payload.{Payload}
use Rattle.names.specs.Command.{command_of}
use Rattle.commands.specs.Table.{rule_of}
use Rattle.commands.specs.Request.{builds}
use Rattle.data.specs.Ranges.{in_ranges, data_fit, outside, judge}
use Rattle.data.specs.Data.{data_ranges}
use Rattle.numbers.proofs.Where.{no_some, false_true}
use Rattle.data.proofs.Where.{out_of_range}
use Rattle.bodies.specs.Body.{Judged, Accepted, Refused, data_shape, read_shape, request_or_refusal, shaped, after_name, read_body}
use Rattle.bodies.specs.Position.{forms, ranges, after_name_position, body_position, judged_at}
use Rattle.bodies.proofs.Requests.{both}

-- ---- a number and data that were read

abbrev pub texts : List Placed → List (List ℕ)
texts = map (λ f. f.text)

-- data out of range start the fields that are left; an LN has none
data_out : (etx : ℕ) (t : Bool) (f : Form) (fs : List Placed) {p : Payload} → data_shape t f (texts fs) ≡ Some p → cond t (in_ranges f p) true ≡ false → offending etx (cond t (data_ranges f) []) fs ≡ start_of etx fs
data_out etx true f fs e z = out_of_range etx f fs e z
data_out etx false f fs e z = false_true (sym z)

module _ (etx : ℕ) (rule : Rule) {n : ℕ} {r : Payload} where
  -- the number is the first field
  pub number_at : (fs : List Placed) → read_shape rule (texts fs) ≡ Some (n, r) → outside rule n ≡ true → offending etx (ranges rule) fs ≡ start_of etx fs
  unfolding read_shape
  number_at [] e z = no_some e
  number_at (f ∷ fs) e z =
      let b = both (read_whole f.text) (data_shape rule.store rule.form (texts fs)) e in
      rw (offending_next etx (λ s. reads_as (λ m. not (outside rule m)) (read_whole s)) (cond rule.store (data_ranges rule.form) []) f fs, b.0, z)

  -- the data are those after it
  pub data_at : (fs : List Placed) → read_shape rule (texts fs) ≡ Some (n, r) → outside rule n ≡ false → data_fit rule r ≡ false → offending etx (ranges rule) fs ≡ start_of etx (drop 1 fs)
  unfolding read_shape
  data_at [] e o z = no_some e
  data_at (f ∷ fs) e o z =
      let b = both (read_whole f.text) (data_shape rule.store rule.form (texts fs)) e in
      rw (offending_next etx (λ s. reads_as (λ m. not (outside rule m)) (read_whole s)) (cond rule.store (data_ranges rule.form) []) f fs, b.0, o) (data_out etx rule.store rule.form fs b.1 z)

-- ---- a request, or its refusal 11 or 12 at a position

-- two positions of 11 and of 12 are the same where those refusals arise
pub same_place : (c : Command) (n : ℕ) (r : Payload) (p q : ℕ → ℕ) → (outside (rule_of c) n ≡ true → p 11 ≡ q 11) → (outside (rule_of c) n ≡ false → data_fit (rule_of c) r ≡ false → p 12 ≡ q 12) → judged_at p (request_or_refusal c n r) ≡ judged_at q (request_or_refusal c n r)
unfolding request_or_refusal judge
same_place c n r p q a b = go (outside (rule_of c) n) (data_fit (rule_of c) r) refl refl
  where
    go : (s t : Bool) → outside (rule_of c) n ≡ s → data_fit (rule_of c) r ≡ t → judged_at p (request_or_refusal c n r) ≡ judged_at q (request_or_refusal c n r)
    go true t d e = rw (d, a d)
    go false true d e = rw (d, e)
    go false false d e = rw (d, e, b d e)

-- ---- a refused body, whatever it is

-- its number is one from 9 to 12
abbrev pub Numbered : Judged → Type 0
Numbered (Accepted r) = Unit
Numbered (Refused n store) = (9 ≤ n) × (n ≤ 12)

judged_number : (c : Command) (n : ℕ) (r : Payload) → Numbered (request_or_refusal c n r)
unfolding request_or_refusal judge
judged_number c n r = go (outside (rule_of c) n) (data_fit (rule_of c) r)
  where
    go : (s t : Bool) → let j : ℕ = cond s 11 (cond t 0 12) in Numbered (cond (eqb j 0) (Accepted (builds c n r)) (Refused j (rule_of c).store))
    go true t = (omega arith, omega arith)
    go false true = tt
    go false false = (omega arith, omega arith)

shape_number : (c : Command) (o : Option (ℕ × Payload)) → Numbered (shaped c o)
shape_number c (Some p) = judged_number c p.0 p.1
shape_number c None = (omega arith, omega arith)

pub body_number : (s : List ℕ) → Numbered (read_body s)
unfolding read_body fields
body_number s = go (command_of (first s))
  where
    go : (c : Option Command) → Numbered (after_name c (more s))
    go (Some c) = shape_number c (read_shape (rule_of c) (more s))
    go None = (omega arith, omega arith)

-- and it is wrong where a field of it starts, or at ETX
pub body_pointed : (s : List ℕ) (n : ℕ) → (read_frame s).number ≡ 0 → Pointed s (body_position s n)
unfolding body_position placed
body_pointed s n e =
    let p = body_place s e in
    rw p.fields_are (go (eqb n 9) (command_of (first (read_frame s).body)))
  where
    go : (t : Bool) (c : Option Command) → Pointed s (cond t (body_start s) (after_name_position (length s - 2) c (placed_more (body_start s) (read_frame s).body) n))
    go true c = let f = (body_fields s e).0 in (f.0, (f.1.0, inr f.1.1))
    go false (Some c) = body_offends s e 1 (cond (eqb n 10) (forms (rule_of c)) (ranges (rule_of c)))
    go false None = (omega arith, (omega arith, inl refl))
