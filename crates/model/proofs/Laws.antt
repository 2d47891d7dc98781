-- Laws about tests, about the rows of a table, about ranges, and about requests and replies as they are written.
use Prim.Native.Nat.{ℕ, zero, suc, ◌%◌, ◌≤◌, ◌<◌}
use mathlib.Core.Path.{◌≡◌, refl, ap, ◌∙◌}
use mathlib.Core.Bool.{Bool, true, false, cond, not, ◌&&◌}
use mathlib.Core.List.{List, [], ◌∷◌}
use Rattle.std.specs.Prelude.{None, Some}
use native.Mathlib.Omega.{arith}
use borrow.Author.Tests.{le-ltb, eqb-true, eq-eqb}
use lib.Dec.{ltb, eqb}
use lib.IntN.{ℤ, pos, nat_abs}
use lib.ListN.{length, get_or, set, replicate}
use lib.Seq.{get_or-set_same, get_or-set_other}
use lib.Signed.{lt_z}
use Rattle.frame.specs.Frame.{Reading, read_frame, frame_position, frame_of}
use Rattle.commands.specs.declared.table.Kind.{Kind}
use Rattle.commands.specs.declared.table.Kind.TheVariants as kind
use Rattle.commands.specs.declared.table.Form.TheVariants.{Numbers}
use Rattle.commands.specs.declared.table.Rule.{Rule}
use Rattle.commands.specs.declared.request.Row.{Row}
use Rattle.commands.specs.declared.request.Payload.TheVariants as payload
use Rattle.commands.specs.declared.request.Request.{Request}
use Rattle.commands.specs.Table.{loads, stores}
use Rattle.commands.specs.Request.{one, parts_of}
use Rattle.bodies.specs.Body.{Judged}
use Rattle.bodies.specs.Body as judged
use Rattle.replies.specs.declared.reply.Data.{Data}
use Rattle.replies.specs.declared.reply.Outcome.{Outcome}
use Rattle.replies.specs.declared.reply.Outcome.TheVariants as outcome
use Rattle.numbers.specs.Ranges.{limits_of, in_range, each_in_range, all_in_range}
use Rattle.data.specs.Ranges.{judge}
use Rattle.bodies.specs.Body.{read_body}
use Rattle.replies.specs.Reply.{content_of}
use Rattle.reply_writer.specs.Writer.{code_of, content_fits, judge_outcome, outcome_text}
use Rattle.harl.specs.Message.{rule_for, judge_asked, the_request, no_request, from_station, request_in, read_request, write_request, judge_reply, write_reply, the_outcome, read_reply}
use Rattle.numbers.proofs.Bounds.{in_nat, head_in, tail_in, all_x, one_in}
use Rattle.data.proofs.Bounds.{passed}
use Rattle.harl.proofs.Laws.{check_passed, Fitting}
use Rattle.harl.proofs.Requests.{requests_read_back}
use Rattle.harl.proofs.Replies.{replies_read_back}
use Rattle.tables.specs.Tables.{PerField, columns, EachField, as_row, set2}

-- ---- tests

pub false_true : {A : Type 0} → false ≡ true → A
false_true e = let z : ◌≡◌ {A = ℕ} 0 1 = cc in absurd (omega arith)

-- what holds of both branches
pub cond_has : {A : Type 0} (P : A → Type 0) (t : Bool) {x y : A} → P x → P y → P (cond t x y)
cond_has P true p q = p
cond_has P false p q = q

-- ---- a store changes the row of its own slot alone

module _ {A : Type 0} (t : List (List A)) where
  pub row_other : (j k n : ℕ) (v : A) → (k ≡ j → ⊥) → get_or (set2 t j n v) k [] ≡ get_or t k []
  row_other j k n v ne = get_or-set_other t j k _ [] ne

  pub row_same : (k n : ℕ) (v : A) → length t ≡ 4 → k < 4 → get_or (set2 t k n v) k [] ≡ set (get_or t k []) n v
  row_same k n v e l = get_or-set_same t k _ [] (rw e l)

-- ---- what holds of every element of a list, and of what is read past its end

module _ {A : Type 0} (P : A → Type 0) (d : A) where
  -- a store of such a value keeps it
  pub set_has : (l : List A) (i j : ℕ) (v : A) → P v → P (get_or l j d) → P (get_or (set l i v) j d)
  set_has [] i j v p h = h
  set_has (x ∷ l) zero zero v p h = p
  set_has (x ∷ l) zero (suc j) v p h = h
  set_has (x ∷ l) (suc i) zero v p h = h
  set_has (x ∷ l) (suc i) (suc j) v p h = set_has l i j v p h

  pub replicate_has : (n j : ℕ) (v : A) → P v → P d → P (get_or (replicate n v) j d)
  replicate_has zero j v p h = h
  replicate_has (suc n) zero v p h = p
  replicate_has (suc n) (suc j) v p h = replicate_has n j v p h

-- and of every place of a table
module _ {A : Type 0} (P : A → Type 0) (d : A) where
  abbrev pub Every : List (List A) → Type 0
  Every t = (k n : ℕ) → P (get_or (get_or t k []) n d)

  pub every_set : (t : List (List A)) (k n : ℕ) (v : A) → P v → Every t → Every (set2 t k n v)
  every_set t k n v p h j =
      set_has (λ r. (m : ℕ) → P (get_or r m d)) [] t k j _ (λ m. set_has P d (get_or t k []) n m v p (h k m)) (h j)

  pub every_equal : (s n : ℕ) (v : A) → P v → P d → Every (replicate s (replicate n v))
  every_equal s n v p h j =
      replicate_has (λ r. (m : ℕ) → P (get_or r m d)) [] s j _ (λ m. replicate_has P d n m v p h) (λ m. h)

-- ---- ranges

-- from 0 to m
up_to : (m v : ℕ) → v ≤ m → not (lt_z (pos v) (pos 0)) && not (lt_z (pos m) (pos v)) ≡ true
up_to m v h = rw (le-ltb v 0 (omega arith), le-ltb m v h)

pub port_in_lem : (v : ℕ) → v ≤ 255 → in_range kind.Port (pos v) ≡ true
unfolding in_range
port_in_lem v h = up_to 255 v h

signal_in_lem : (v : ℕ) → v ≤ 1 → in_range kind.Signal (pos v) ≡ true
unfolding in_range
signal_in_lem v h = up_to 1 v h

-- in a range that starts at 0, the natural number that a value is
pub natural_in : (c : Kind) (v : ℤ) → (limits_of c).low ≡ pos 0 → in_range c v ≡ true → in_range c (pos (nat_abs v)) ≡ true
natural_in c v low h = rw (← in_nat c v low h) h

-- the fields of a row
pub row_in : (c : PerField ℤ) → EachField (λ v. in_range kind.Row v ≡ true) c → all_in_range kind.Row (as_row c) ≡ true
unfolding all_in_range each_in_range
row_in c h = rw (h.x, h.y, h.z, h.w)

pub row_out : (r : Row) → all_in_range kind.Row r ≡ true → EachField (λ v. in_range kind.Row v ≡ true) (columns r.x r.y r.z r.w)
unfolding all_in_range
row_out r h =
    let y = tail_in kind.Row r.x _ h in
    let z = tail_in kind.Row r.y _ y in
    let w = tail_in kind.Row r.z _ z in
    record { x = head_in kind.Row r.x _ h; y = head_in kind.Row r.y _ y; z = head_in kind.Row r.z _ z; w = head_in kind.Row r.w _ w }

-- a bit
pub bit_in : (n : ℕ) → all_in_range kind.Signal (one (pos (n % 2))) ≡ true
bit_in n = one_in kind.Signal (pos (n % 2)) (signal_in_lem (n % 2) (omega arith))

-- the value of an SN that passes checks 11 and 12
pub data_in_lem : (k : Kind) (first last n : ℕ) (v : ℤ) → judge (stores (loads (Numbers k) first last)) n (payload.Numbers (one v)) ≡ 0 → in_range k v ≡ true
data_in_lem k first last n v e = all_x k (one v) (passed (stores (loads (Numbers k) first last)) n (payload.Numbers (one v)) e).payload

-- ---- requests and replies as they are written

-- a frame of request r to station s
pub record Framed (o : Reading) (s : ℕ) (r : Request) : Type 0 where
  pub number : o.number ≡ 0
  pub station : o.station ≡ s
  pub body : read_body o.body ≡ judged.Accepted r

never : {A : Type 0} {n p s : ℕ} {r : Request} → no_request n p ≡ the_request s r → A
never {A} {n} {p} {s} {r} e =
    let clash : None ≡ Some r = ap (λ o. o.request) e in
    let z : ◌≡◌ {A = ℕ} 0 1 = cc in
    absurd (omega arith)

-- what reads as a request is a frame of it
pub framed : (slice : List ℕ) (o : Reading) (s : ℕ) (r : Request) → request_in slice o ≡ the_request s r → Framed o s r
framed slice o s r = go (eqb o.number 0) refl (read_body o.body) refl
  where
    go : (t : Bool) → eqb o.number 0 ≡ t → (j : Judged) → read_body o.body ≡ j
        → cond t (from_station slice o.station j) (no_request o.number (frame_position slice o.number)) ≡ the_request s r → Framed o s r
    go true p (judged.Accepted q) w e =
        let found : Some q ≡ Some r = ap (λ x. x.request) e in
        let same : q ≡ r = cc in
        record { number = eqb-true o.number 0 p; station = ap (λ x. x.station) e; body = w ∙ ap judged.Accepted same }
    go true p (judged.Refused n q) w e = never e
    go false p j w e = never e

module _ (area s : ℕ) (r : Request) (e : (write_request area s r).number ≡ 0) where
  pub written_frame : Framed (read_frame (write_request area s r).bytes) s r
  unfolding read_request
  written_frame = framed _ _ s r (requests_read_back area s r e)

  pub written_in : judge_asked s r ≡ 0
  unfolding write_request
  written_in = (check_passed (ltb area 64) 1 (judge_asked s r) (omega arith) e).1

-- data that fit a command can be written
pub fitting_in : (rule : Rule) (asked : ℕ) (d : Data) → Fitting rule asked (content_of d) → judge_outcome rule asked (outcome.Data d) ≡ 0
unfolding judge_outcome content_fits
fitting_in rule asked d f = rw (f.loads, f.form, eq-eqb (code_of rule.form) _ refl, f.number, f.range)

-- the frame of an outcome that can be written reads as that outcome
pub outcome_back : (s : ℕ) (r : Request) (o : Outcome) → judge_asked s r ≡ 0 → judge_outcome (rule_for r) (parts_of r).number o ≡ 0
    → read_reply (frame_of s (outcome_text (rule_for r).store o)) s r ≡ the_outcome o
unfolding judge_reply write_reply
outcome_back s r o p q = let e : judge_reply 64 s r o ≡ 0 = rw (p, q) in rw e at (replies_read_back 64 s r o e)
