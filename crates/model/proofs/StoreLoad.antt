-- Store and load. An arm is taken as a list of banks of cells. Every item is a cell or a bit of one, and every write
-- sets one cell, so what is stored and what is kept is argued once, over cells and bits.
use Prim.Native.Nat.{ℕ, zero, suc, ◌+◌, ◌-◌, ◌*◌, ◌/◌, ◌%◌, ◌≤◌, ◌<◌}
use mathlib.Core.Path.{◌≡◌, refl, sym, ap, ap₂, ◌∙◌}
use mathlib.Core.Bool.{Bool, true, false, cond}
use mathlib.Core.List.{List, [], ◌∷◌, map}
use native.Mathlib.Omega.{arith}
use native.Mathlib.Decide.{ℕ_discrete}
use borrow.Author.Tests.{eqb-true, le-ltb, le-leb, eq-eqb, ne_eqb}
use lib.Dec.{eqb}
use lib.ListN.{length, get_or, set, replicate, get_or-replicate, length-map, get_or-map}
use lib.Seq.{get_or-set_same, get_or-set_other}
use lib.IntN.{ℤ, pos, nat_abs}
use Rattle.frame.specs.Frame.{read_frame}
use Rattle.commands.specs.declared.table.Kind.{Kind}
use Rattle.commands.specs.declared.table.Kind.TheVariants as kind
use Rattle.commands.specs.declared.table.Form.{Form}
use Rattle.commands.specs.declared.table.Form.TheVariants.{Numbers, Texts}
use Rattle.commands.specs.declared.request.Row.{Row}
use Rattle.commands.specs.declared.request.Payload.{Payload}
use Rattle.commands.specs.declared.request.Payload.TheVariants as payload
use Rattle.commands.specs.declared.request.Load.{Load}
use Rattle.commands.specs.declared.request.Load.TheVariants as load
use Rattle.commands.specs.declared.request.Store.{Store}
use Rattle.commands.specs.declared.request.Store.TheVariants as store
use Rattle.commands.specs.declared.request.Request.{Request}
use Rattle.commands.specs.declared.request.Request.TheVariants as request
use Rattle.commands.specs.Table.{loads}
use Rattle.commands.specs.Request.{one, port, signal, parts_of}
use Rattle.replies.specs.declared.reply.Data.TheVariants as held
use Rattle.numbers.specs.Ranges.{limits_of, all_in_range}
use Rattle.data.specs.Ranges.{judge}
use Rattle.bodies.specs.Body.{read_body}
use Rattle.replies.specs.declared.reply.Outcome.{Outcome}
use Rattle.replies.specs.declared.reply.Outcome.TheVariants as outcome
use Rattle.replies.specs.Reply.{step_outcome}
use Rattle.reply_reader.specs.Reader.{numbers_of}
use Rattle.steps.specs.declared.step.Step.{Step}
use Rattle.steps.specs.Step.{is_step, texts_of}
use Rattle.steps.proofs.Back.{texts_back}
use Rattle.harl.specs.Message.{rule_for, judge_request, judge_asked, read_request, write_request, the_outcome, no_outcome, read_reply}
use Rattle.ports.specs.Bits.{bit, with_bit}
use Rattle.tables.specs.Tables.{PerField, each_field, each_with, EachField, as_row, with_inputs, set2, LoadInRange, StoreInRange}
use Rattle.ports.proofs.Bits.{bit_same, bit_other}
use Rattle.tables.proofs.Ranges.{readable}
use Rattle.numbers.proofs.Bounds.{in_size, in_nat, all_x}
use Rattle.data.proofs.Bounds.{passed, judged}
use Rattle.harl.proofs.Accepted.{accepted_in_range}
use Rattle.harl.proofs.Requests.{requests_read_back, asked_ok}
use Rattle.model.specs.Call.{serve, input}
use Rattle.programs.specs.Memory.{size}
use Rattle.programs.proofs.Programs.{program_length}
use Rattle.model.specs.Setup.{setup_refusal}
use Rattle.model.specs.Box.{Box, setup, at, decide_on, after, run}
use Rattle.model.specs.Lone.{Arm, holds, replaced, step}
use Rattle.model.specs.Addressed.{Fitted, is_for, arm_of}
use Rattle.model.specs.Ranges.{InRange, brings_byte}
use Rattle.model.specs.StoreLoad.{station_at, told, replies, Write, sn, wired, call_to, Accepts, item_of, given_by, port_of, View, entire, bit_at, view_of, Other, StoreLoad}
use Rattle.model.proofs.Laws.{framed}
use Rattle.model.proofs.Slots.{Apart, setup_apart, concerns, body_concerns, heard, decided}
use Rattle.model.proofs.Arms.{other}
use Rattle.model.proofs.Setups.{accepted_small}
use Rattle.model.proofs.Programs.{after_length}
use Rattle.model.proofs.Counts.{Tallied, after_tallied}
use Rattle.model.proofs.Isolation.{after_stations, after_same, run_stations, run_size, always_tallied}
use Rattle.model.proofs.Ranges.{sound, after_in, always_in_range}
use Rattle.model.proofs.EndToEnd.{exchanged}

-- ---- lists

map_set : {A B : Type 0} (f : A → B) (l : List A) (i : ℕ) (v : A) → map f (set l i v) ≡ set (map f l) i (f v)
map_set f [] i v = refl
map_set f (x ∷ l) zero v = refl
map_set f (x ∷ l) (suc i) v = ap (λ t. f x ∷ t) (map_set f l i v)

-- a row that has place i is in the table
row_within : {A : Type 0} (t : List (List A)) (c i : ℕ) → i < length (get_or t c []) → c < length t
row_within [] c i h = absurd (omega arith)
row_within (r ∷ t) zero i h = omega arith
row_within (r ∷ t) (suc c) i h = omega (arith, row_within t c i h)

-- two columns as one
paired : {A B : Type 0} → List A → List B → List (A × B)
paired [] ys = []
paired (x ∷ xs) [] = []
paired (x ∷ xs) (y ∷ ys) = (x, y) ∷ paired xs ys

module _ {A B : Type 0} where
  paired_set : (xs : List A) (ys : List B) (i : ℕ) (a : A) (b : B) → paired (set xs i a) (set ys i b) ≡ set (paired xs ys) i (a, b)
  unfolding paired
  paired_set [] ys i a b = refl
  paired_set (x ∷ xs) [] zero a b = refl
  paired_set (x ∷ xs) [] (suc i) a b = refl
  paired_set (x ∷ xs) (y ∷ ys) zero a b = refl
  paired_set (x ∷ xs) (y ∷ ys) (suc i) a b = ap (λ t. (x, y) ∷ t) (paired_set xs ys i a b)

  paired_at : (xs : List A) (ys : List B) (i : ℕ) (a : A) (b : B) → length xs ≡ length ys → get_or (paired xs ys) i (a, b) ≡ (get_or xs i a, get_or ys i b)
  unfolding paired
  paired_at [] [] i a b e = refl
  paired_at [] (y ∷ ys) i a b e = absurd (omega arith)
  paired_at (x ∷ xs) [] i a b e = absurd (omega arith)
  paired_at (x ∷ xs) (y ∷ ys) zero a b e = refl
  paired_at (x ∷ xs) (y ∷ ys) (suc i) a b e = paired_at xs ys i a b (omega arith)

  paired_length : (xs : List A) (ys : List B) → length xs ≡ length ys → length (paired xs ys) ≡ length xs
  unfolding paired
  paired_length [] ys e = refl
  paired_length (x ∷ xs) [] e = absurd (omega arith)
  paired_length (x ∷ xs) (y ∷ ys) e = ap suc (paired_length xs ys (omega arith))

-- the columns of the fields as one column of rows
abbrev joined : (ℤ × ℤ) × (ℤ × ℤ) → Row
joined p = record { x = p.0.0; y = p.0.1; z = p.1.0; w = p.1.1 }

abbrev rows_from : PerField (List ℤ) → List Row
rows_from c = map joined (paired (paired c.x c.y) (paired c.z c.w))

rows_set : (c : PerField (List ℤ)) (i : ℕ) (r : Row) → rows_from (each_with (λ t v. set t i v) c r) ≡ set (rows_from c) i r
rows_set c i r = simp (paired_set, map_set)

-- columns of a length n
module _ (n : ℕ) (c : PerField (List ℤ)) (h : EachField (λ t. length t ≡ n) c) where
  left : length (paired c.x c.y) ≡ n
  left = paired_length c.x c.y (h.x ∙ sym h.y) ∙ h.x

  right : length (paired c.z c.w) ≡ n
  right = paired_length c.z c.w (h.z ∙ sym h.w) ∙ h.z

  pairs_length : length (paired (paired c.x c.y) (paired c.z c.w)) ≡ n
  pairs_length = paired_length (paired c.x c.y) (paired c.z c.w) (left ∙ sym right) ∙ left

  rows_at : (i : ℕ) → get_or (rows_from c) i (one (pos 0)) ≡ as_row (each_field (λ t. get_or t i (pos 0)) c)
  rows_at i =
      get_or-map joined (paired (paired c.x c.y) (paired c.z c.w)) i ((pos 0, pos 0), (pos 0, pos 0))
      ∙ ap joined
      (paired_at (paired c.x c.y) (paired c.z c.w) i (pos 0, pos 0) (pos 0, pos 0) (left ∙ sym right)
      ∙ ap₂ (λ p q. (p, q)) (paired_at c.x c.y i (pos 0) (pos 0) (h.x ∙ sym h.y)) (paired_at c.z c.w i (pos 0) (pos 0) (h.z ∙ sym h.w)))

-- ---- cells

-- a row, in which a number stands as x, or the texts of a step
data Cell : Type 0 where
  row : Row → Cell
  texts : List (List ℕ) → Cell

-- the row and the texts of a cell, zeros and none in one of the other form
abbrev row_of : Cell → Row
row_of (row r) = r
row_of (texts ts) = one (pos 0)

abbrev texts_in : Cell → List (List ℕ)
texts_in (row r) = []
texts_in (texts ts) = ts

-- a natural number in a cell
abbrev nat : ℕ → Cell
nat n = row (one (pos n))

-- a cell's place: its bank, and its number there
record Place : Type 0 where
  bank : ℕ
  index : ℕ

abbrev place : ℕ → ℕ → Place
place c i = record { bank = c; index = i }

-- what stands there; a number past the end reads as 0
abbrev cell : List (List Cell) → Place → Cell
cell t p = get_or (get_or t p.bank []) p.index (nat 0)

-- the bank has that number
abbrev Within : List (List Cell) → Place → Type 0
Within t p = p.index < length (get_or t p.bank [])

module _ (t : List (List Cell)) (p : Place) (v : Cell) (h : Within t p) where
  row_set : get_or (set2 t p.bank p.index v) p.bank [] ≡ set (get_or t p.bank []) p.index v
  row_set = get_or-set_same t p.bank _ [] (row_within t p.bank p.index h)

  -- a cell that is set holds its value
  cell_same : cell (set2 t p.bank p.index v) p ≡ v
  cell_same = rw row_set (get_or-set_same (get_or t p.bank []) p.index v _ h)

  -- any other keeps its own
  cell_other : (q : Place) → (p ≡ q → ⊥) → cell (set2 t p.bank p.index v) q ≡ cell t q
  cell_other q ne = go (ℕ_discrete q.bank p.bank) (ℕ_discrete q.index p.index)
    where
      go : Dec (q.bank ≡ p.bank) → Dec (q.index ≡ p.index) → cell (set2 t p.bank p.index v) q ≡ cell t q
      go (no n) d = ap (λ r. get_or r q.index (nat 0)) (get_or-set_other t p.bank q.bank _ [] n)
      go (yes e) (no n) = rw (e, row_set) (get_or-set_other (get_or t p.bank []) p.index q.index v _ n)
      go (yes e) (yes f) = absurd (ne (ap₂ place (sym e) (sym f)))

-- ---- parts of cells

-- the natural number of a cell
abbrev size_of : Cell → ℕ
size_of c = nat_abs (row_of c).x

-- what a part shows of a cell
abbrev seen : View → Cell → Cell
seen entire c = c
seen (bit_at n) c = nat (bit (size_of c) n)

-- the cell with v for that part
abbrev merged : View → Cell → Cell → Cell
merged entire c v = v
merged (bit_at n) c v = nat (with_bit (size_of c) n (size_of v))

-- a bit is a bit of a byte
abbrev Bitwise : View → Cell → Type 0
Bitwise entire c = Unit
Bitwise (bit_at n) c = (n < 8) × (size_of c < 256)

-- and what is stored there is 0 or 1
abbrev Binary : View → Cell → Type 0
Binary entire v = Unit
Binary (bit_at n) v = (size_of v < 2) × (v ≡ nat (size_of v))

-- a part that is stored is seen
seen_same : (p : View) (c v : Cell) → Bitwise p c → Binary p v → seen p (merged p c v) ≡ v
seen_same entire c v b d = refl
seen_same (bit_at n) c v b d = ap nat (bit_same (size_of c) n (size_of v) b.1 b.0 d.0) ∙ sym d.1

-- another bit is seen as before
seen_other : (n m : ℕ) (c v : Cell) → Bitwise (bit_at n) c → Binary (bit_at n) v → m < 8 → (m ≡ n → ⊥)
    → seen (bit_at m) (merged (bit_at n) c v) ≡ seen (bit_at m) c
seen_other n m c v b d l ne = ap nat (bit_other (size_of c) n (size_of v) m b.1 b.0 d.0 l ne)

-- ---- an arm as banks of cells

abbrev banks : Arm → List (List Cell)
banks a =
    map nat a.inputs ∷ map nat a.outputs ∷ map nat a.memory ∷
    map nat a.timers ∷ map nat a.registers ∷ map row (rows_from a.rows) ∷ map texts a.programs ∷ []

-- the length of each
abbrev lengths : List ℕ
lengths = 32 ∷ 32 ∷ 16 ∷ 16 ∷ 64 ∷ 100 ∷ 256 ∷ []

-- the cell of an item
abbrev placed : Load → Place
placed (load.Timer n) = place 3 n
placed (load.Register n) = place 4 n
placed (load.Row n) = place 5 n
placed (load.Input g) = place 0 (g.0 / 8)
placed (load.InputPort p) = place 0 p.0
placed (load.Output g) = place 1 (g.0 / 8)
placed (load.OutputPort p) = place 1 p.0
placed (load.MemoryBit g) = place 2 ((g.0 - 256) / 8)
placed (load.MemoryPort p) = place 2 p.0
placed (load.Step n) = place 6 n

-- the item that a cell is, for each bank
abbrev cell_items : List (ℕ → Load)
cell_items =
    (λ n. load.InputPort (port n)) ∷ (λ n. load.OutputPort (port n)) ∷ (λ n. load.MemoryPort (port n)) ∷
    load.Timer ∷ load.Register ∷ load.Row ∷ load.Step ∷ []

-- and its signals, by their number in the bank
abbrev bit_items : List (ℕ → Load)
bit_items = (λ n. load.Input (signal n)) ∷ (λ n. load.Output (signal n)) ∷ (λ n. load.MemoryBit (signal (n + 256))) ∷ []

-- the item at a part of a cell
abbrev item_at : Place → View → Load
item_at p entire = get_or cell_items p.bank load.Timer p.index
item_at p (bit_at n) = get_or bit_items p.bank load.Timer (p.index * 8 + n)

-- what is answered of a cell, by the form of an item and its number
abbrev outcome_in : Form → ℕ → Cell → Outcome
outcome_in (Numbers k) n c = outcome.Data (numbers_of k (row_of c))
outcome_in Texts n c = step_outcome n (texts_in c)

abbrev answer_for : Load → Cell → Outcome
answer_for l = outcome_in (rule_for (request.Load l)).form (parts_of (request.Load l)).number

-- what is known of an arm's tables: their lengths, and that ports are bytes
record Sized (a : Arm) : Type 0 where
  columns : EachField (λ t. length t ≡ 100) a.rows
  sizes : map length (banks a) ≡ lengths
  inputs : (n : ℕ) → get_or a.inputs n 0 < 256
  outputs : (n : ℕ) → get_or a.outputs n 0 < 256
  memory : (n : ℕ) → get_or a.memory n 0 < 256
  steps : length a.programs ≡ 256

-- ---- each item is a part of a cell

record Located (a : Arm) (l : Load) : Type 0 where
  -- an LN answers it
  answers : holds a l ≡ answer_for l (seen (view_of l) (cell (banks a) (placed l)))
  -- no other item is that part, and its port is the cell
  item : item_at (placed l) (view_of l) ≡ l
  port : item_at (placed l) entire ≡ port_of l
  bits : Bitwise (view_of l) (cell (banks a) (placed l))

nat_at : (l : List ℕ) (i : ℕ) → get_or (map nat l) i (nat 0) ≡ nat (get_or l i 0)
nat_at l i = get_or-map nat l i 0

row_at : (l : List Row) (i : ℕ) → get_or (map row l) i (nat 0) ≡ row (get_or l i (one (pos 0)))
row_at l i = get_or-map row l i (one (pos 0))

texts_at_lem : (l : List (List (List ℕ))) (i : ℕ) → i < length l → get_or (map texts l) i (nat 0) ≡ texts (get_or l i [])
texts_at_lem [] i h = absurd (omega arith)
texts_at_lem (t ∷ l) zero h = refl
texts_at_lem (t ∷ l) (suc i) h = texts_at_lem l i (omega arith)

located : (a : Arm) → Sized a → (l : Load) → LoadInRange l → Located a l
unfolding holds
located a h (load.Timer n) z = record { answers = rw nat_at; item = refl; port = refl; bits = tt }
located a h (load.Register n) z = record { answers = rw nat_at; item = refl; port = refl; bits = tt }
located a h (load.Row n) z = record { answers = rw (row_at (rows_from a.rows) n, rows_at 100 a.rows h.columns n); item = refl; port = refl; bits = tt }
located a h (load.Input g) z =
    let e : g.0 / 8 * 8 + g.0 % 8 ≡ g.0 = omega arith in
    record { answers = rw nat_at; item = rw e; port = refl; bits = rw nat_at (omega arith, h.inputs (g.0 / 8)) }
located a h (load.InputPort p) z = record { answers = rw nat_at; item = refl; port = refl; bits = tt }
located a h (load.Output g) z =
    let e : g.0 / 8 * 8 + g.0 % 8 ≡ g.0 = omega arith in
    record { answers = rw nat_at; item = rw e; port = refl; bits = rw nat_at (omega arith, h.outputs (g.0 / 8)) }
located a h (load.OutputPort p) z = record { answers = rw nat_at; item = refl; port = refl; bits = tt }
located a h (load.MemoryBit g) z =
    let e : (g.0 - 256) / 8 * 8 + (g.0 - 256) % 8 + 256 ≡ g.0 = omega (arith, (passed _ _ _ z).low) in
    record { answers = rw nat_at; item = rw e; port = refl; bits = rw nat_at (omega arith, h.memory ((g.0 - 256) / 8)) }
located a h (load.MemoryPort p) z = record { answers = rw nat_at; item = refl; port = refl; bits = tt }
located a h (load.Step n) z =
    record { answers = rw (texts_at_lem a.programs n (omega (arith, h.steps, (passed _ _ _ z).high))); item = refl; port = refl; bits = tt }

-- ---- each write sets a part of a cell

-- the arm with what is written
abbrev arm_with : Arm → Write → Arm
arm_with a (sn slice room q) = replaced a q
arm_with a (wired p v) = with_inputs a (set a.inputs p v)

-- what is written, as a cell
abbrev cell_of : Payload → Cell
cell_of payload.None = nat 0
cell_of (payload.Numbers r) = row r
cell_of (payload.Texts s) = texts (texts_of s)

abbrev brought : Write → Cell
brought (sn slice room q) = cell_of (parts_of (request.Store q)).payload
brought (wired p v) = nat v

-- it is in range
abbrev Ranged : Write → Type 0
Ranged (sn slice room q) = StoreInRange q
Ranged (wired p v) = p ≤ 31

-- an LN whose number is in its range
number_ranged : (f : Form) (first last n : ℕ) → first ≤ n → n ≤ last → judge (loads f first last) n payload.None ≡ 0
number_ranged f first last n l h = judged (loads f first last) n payload.None l h refl

-- the LN of its item is in range
item_ranged : (w : Write) → Ranged w → LoadInRange (item_of w)
item_ranged (sn slice room q) e = readable q e
item_ranged (wired p v) e = number_ranged _ _ _ p (omega arith) e

-- the cells with it
abbrev cells_with : Arm → Write → List (List Cell)
cells_with a w =
    let p = placed (item_of w) in
    set2 (banks a) p.bank p.index (merged (view_of (item_of w)) (cell (banks a) p) (brought w))

record Written (a : Arm) (w : Write) : Type 0 where
  -- the cell of its item is set, and no other
  cells : banks (arm_with a w) ≡ cells_with a w
  -- it is the data given
  given : answer_for (item_of w) (brought w) ≡ outcome.Data (given_by w)
  -- that cell is there
  within : Within (banks a) (placed (item_of w))
  binary : Binary (view_of (item_of w)) (brought w)

-- a number below the length of its bank
in_bank : (a : Arm) → Sized a → (c i : ℕ) → i < get_or lengths c 0 → Within (banks a) (place c i)
in_bank a h c i l =
    let e : length (get_or (banks a) c []) ≡ get_or lengths c 0 = sym (get_or-map length (banks a) c []) ∙ ap (λ t. get_or t c 0) h.sizes in
    omega arith

-- a value whose range starts at 0
natural : (c : Kind) (v : ℤ) → (limits_of c).low ≡ pos 0 → all_in_range c (one v) ≡ true → nat (nat_abs v) ≡ row (one v)
natural c v low h = ap (λ z. row (one z)) (sym (in_nat c v low (all_x c (one v) h)))

-- a value of a signal
binary_in : (v : ℤ) → all_in_range kind.Signal (one v) ≡ true → (nat_abs v < 2) × (row (one v) ≡ nat (nat_abs v))
binary_in v h = (omega (arith, in_size kind.Signal v (all_x kind.Signal (one v) h)), sym (natural kind.Signal v refl h))

-- a step is told by its texts
step_given : (n : ℕ) (s : Step) → is_step s ≡ true → step_outcome n (texts_of s) ≡ outcome.Data (held.Step n s)
unfolding texts_of
step_given n s e = ap (λ t. outcome.Data (held.Step n t)) (texts_back s e)

written : (a : Arm) → Sized a → (w : Write) → Ranged w → Written a w
unfolding replaced
written a h (sn slice room (store.Timer n v)) e =
    let p = passed _ _ _ e in
    record {
      cells = rw (map_set, natural kind.Timer v refl p.payload);
      given = refl;
      within = in_bank a h 3 n (omega (arith, p.high));
      binary = tt;
    }
written a h (sn slice room (store.Register n v)) e =
    let p = passed _ _ _ e in
    record {
      cells = rw (map_set, natural kind.Register v refl p.payload);
      given = refl;
      within = in_bank a h 4 n (omega (arith, p.high));
      binary = tt;
    }
written a h (sn slice room (store.Row n r)) e =
    let p = passed _ _ _ e in
    record { cells = rw (rows_set a.rows n r, map_set row (rows_from a.rows) n r); given = refl; within = in_bank a h 5 n (omega (arith, p.high)); binary = tt }
written a h (sn slice room (store.Output g v)) e =
    let p = passed _ _ _ e in
    record {
      cells = rw (map_set, nat_at);
      given = refl;
      within = in_bank a h 1 (g.0 / 8) (omega (arith, p.high));
      binary = binary_in v p.payload;
    }
written a h (sn slice room (store.OutputPort n v)) e =
    let p = passed _ _ _ e in
    record {
      cells = rw (map_set, natural kind.Port v refl p.payload);
      given = refl;
      within = in_bank a h 1 n.0 (omega (arith, p.high));
      binary = tt;
    }
written a h (sn slice room (store.MemoryBit g v)) e =
    let p = passed _ _ _ e in
    record {
      cells = rw (map_set, nat_at);
      given = refl;
      within = in_bank a h 2 ((g.0 - 256) / 8) (omega (arith, p.high, p.low));
      binary = binary_in v p.payload;
    }
written a h (sn slice room (store.MemoryPort n v)) e =
    let p = passed _ _ _ e in
    record {
      cells = rw (map_set, natural kind.Port v refl p.payload);
      given = refl;
      within = in_bank a h 2 n.0 (omega (arith, p.high));
      binary = tt;
    }
written a h (sn slice room (store.Step n s)) e =
    let p = passed _ _ _ e in
    record {
      cells = rw (map_set texts a.programs n (texts_of s));
      given = step_given n s p.payload;
      within = in_bank a h 6 n (omega (arith, p.high));
      binary = tt;
    }
written a h (wired n v) e =
    record { cells = rw map_set; given = refl; within = in_bank a h 0 n (omega arith); binary = tt }

-- ---- what is stored and what is kept, on one arm

same_place : (p q : Place) → Dec (p ≡ q)
same_place p q = go (ℕ_discrete p.bank q.bank) (ℕ_discrete p.index q.index)
  where
    go : Dec (p.bank ≡ q.bank) → Dec (p.index ≡ q.index) → Dec (p ≡ q)
    go (no n) d = no (λ e. n (ap (λ (s : Place). s.bank) e))
    go (yes e) (no n) = no (λ f. n (ap (λ (s : Place). s.index) f))
    go (yes e) (yes f) = yes (ap₂ place e f)

module _ (a b : Arm) (w : Write) (ha : Sized a) (hb : Sized b) (e : b ≡ arm_with a w) (r : Ranged w) where
  -- the part that is written
  mine : Located a (item_of w)
  mine = located a ha (item_of w) (item_ranged w r)

  cells_after : banks b ≡ cells_with a w
  cells_after = ap banks e ∙ (written a ha w r).cells

  -- the cell that is written
  cell_after : cell (banks b) (placed (item_of w)) ≡ merged (view_of (item_of w)) (cell (banks a) (placed (item_of w))) (brought w)
  cell_after = rw cells_after (cell_same (banks a) (placed (item_of w)) _ (written a ha w r).within)

  -- its item
  held_same : holds b (item_of w) ≡ outcome.Data (given_by w)
  held_same =
      let d = written a ha w r in
      (located b hb (item_of w) (item_ranged w r)).answers
      ∙ ap (answer_for (item_of w)) (rw cell_after (seen_same (view_of (item_of w)) _ (brought w) mine.bits d.binary))
      ∙ d.given

  -- another part of that cell
  part_kept : (l : Load) → Located a l → Other (item_of w) l → placed (item_of w) ≡ placed l
      → (p q : View) → view_of (item_of w) ≡ p → view_of l ≡ q
      → (c : Cell) → Bitwise p c → Binary p (brought w) → Bitwise q c → seen q (merged p c (brought w)) ≡ seen q c
  part_kept l i o s entire entire ep eq c bp v bq =
      absurd (o.not_item (sym mine.item ∙ ap₂ item_at s (ep ∙ sym eq) ∙ i.item))
  part_kept l i o s entire (bit_at m) ep eq c bp v bq =
      absurd (o.not_signal (sym mine.item ∙ ap₂ item_at s ep ∙ i.port))
  part_kept l i o s (bit_at n) entire ep eq c bp v bq =
      absurd (o.not_port (sym mine.port ∙ ap₂ item_at s (sym eq) ∙ i.item))
  part_kept l i o s (bit_at n) (bit_at m) ep eq c bp v bq = seen_other n m c (brought w) bp v bq.0 apart
    where
      apart : m ≡ n → ⊥
      apart z = o.not_item (sym mine.item ∙ ap₂ item_at s (ep ∙ ap bit_at (sym z) ∙ sym eq) ∙ i.item)

  -- another item
  held_other : (l : Load) → LoadInRange l → Other (item_of w) l → holds b l ≡ holds a l
  held_other l z o = (located b hb l z).answers ∙ ap (answer_for l) (go (same_place (placed (item_of w)) (placed l))) ∙ sym i.answers
    where
      i : Located a l
      i = located a ha l z

      go : Dec (placed (item_of w) ≡ placed l) → seen (view_of l) (cell (banks b) (placed l)) ≡ seen (view_of l) (cell (banks a) (placed l))
      go (no n) = rw cells_after (ap (seen (view_of l)) (cell_other (banks a) (placed (item_of w)) _ (written a ha w r).within (placed l) n))
      go (yes s) =
          ap (seen (view_of l)) (rw s at cell_after)
          ∙ part_kept l i o s (view_of (item_of w)) (view_of l) refl refl _ (rw s at mine.bits) (written a ha w r).binary i.bits

-- ---- a signal and its port

-- the port of a signal is in range and holds a byte, whose bit the signal is
abbrev Shown : Arm → Load → View → Type 0
Shown a l entire = Unit
Shown a l (bit_at n) =
    LoadInRange (port_of l) × ((v : ℕ) × ((holds a (port_of l) ≡ outcome.Data (held.Port (pos v))) × (holds a l ≡ outcome.Data (held.Signal (pos (bit v n))))))

shown : (a : Arm) (l : Load) → LoadInRange l → Shown a l (view_of l)
unfolding holds
shown a (load.Timer n) i = tt
shown a (load.Register n) i = tt
shown a (load.Row n) i = tt
shown a (load.Input g) i = (number_ranged _ _ _ (g.0 / 8) (omega arith) (omega (arith, (passed _ _ _ i).high)), (_, (refl, refl)))
shown a (load.InputPort p) i = tt
shown a (load.Output g) i = (number_ranged _ _ _ (g.0 / 8) (omega arith) (omega (arith, (passed _ _ _ i).high)), (_, (refl, refl)))
shown a (load.OutputPort p) i = tt
shown a (load.MemoryBit g) i = (number_ranged _ _ _ ((g.0 - 256) / 8) (omega arith) (omega (arith, (passed _ _ _ i).high)), (_, (refl, refl)))
shown a (load.MemoryPort p) i = tt
shown a (load.Step n) i = tt

-- ---- a box that setup and calls leave

record Ready (b : Box) : Type 0 where
  apart : Apart b.stations
  small : (k : ℕ) → Fitted k b.stations → station_at b k ≤ 99
  lent : (k : ℕ) → Fitted k b.stations → length b.tables.programs ≡ size
  tallied : Tallied b.tables
  range : InRange b.tables

-- the arms of such a box
sized : (b : Box) → Ready b → (k : ℕ) → k < 4 → Sized (arm_of k b)
sized b r k l =
    let t = r.tallied.shaped in
    let c : EachField (λ t. length t ≡ 100) (arm_of k b).rows = let r = t.rows in record { x = r.x.row k l; y = r.y.row k l; z = r.z.row k l; w = r.w.row k l } in
    record {
      columns = c;
      sizes =
          simp (
            length-map,
            pairs_length 100 (arm_of k b).rows c,
            t.inputs.row k l,
            t.outputs.row k l,
            t.memory.row k l,
            t.timers.row k l,
            t.registers.row k l,
            program_length k b.tables.programs,
          );
      inputs = λ n. omega (arith, in_size kind.Port _ (r.range.inputs k n));
      outputs = λ n. omega (arith, in_size kind.Port _ (r.range.outputs k n));
      memory = λ n. omega (arith, in_size kind.Port _ (r.range.memory k n));
      steps = program_length k b.tables.programs;
    }

module _ (b : Box) (r : Ready b) (k : ℕ) (f : Fitted k b.stations) where
  -- a request in range can be written to a fitted slot's station
  writable : (q : Request) → judge_request q ≡ 0 → judge_asked (station_at b k) q ≡ 0
  unfolding judge_asked
  writable q e = rw (ne_eqb (station_at b k) 0 f.1, le-ltb 99 (station_at b k) (r.small k f)) e

  -- the answer to an LN that can be written is what the arm holds
  told_asked : (l : Load) → judge_asked (station_at b k) (request.Load l) ≡ 0 → told b k l ≡ the_outcome (holds (arm_of k b) l)
  unfolding told write_request
  told_asked l e = (exchanged b k (station_at b k) (request.Load l) 64 64 refl r.apart f (r.lent k f) r.tallied r.range e (omega arith)).reply

  told_held : (l : Load) → LoadInRange l → told b k l ≡ the_outcome (holds (arm_of k b) l)
  told_held l e = told_asked l (writable (request.Load l) e)

-- ---- a write that comes to slot k

module _ (b : Box) (r : Ready b) (k : ℕ) (f : Fitted k b.stations) where
  -- it is addressed to that slot
  addressed : (w : Write) → Accepts (station_at b k) w → is_for k b.stations (call_to k w) ≡ true
  unfolding is_for read_request
  addressed (sn slice room q) h =
      let o = framed slice (read_frame slice) (station_at b k) (request.Store q) h.1 in
      rw (le-leb 64 room h.0, o.number, o.station) (eq-eqb (station_at b k) _ refl)
  addressed (wired p v) h =
      rw (le-leb k 3 (omega arith), ne_eqb (station_at b k) 0 f.1, le-leb p 31 h.0) (eq-eqb k k refl)

  -- and sets its arm
  arm_own : (w : Write) → Accepts (station_at b k) w → arm_of k (after b (call_to k w)) ≡ arm_with (arm_of k b) w
  unfolding step read_request
  arm_own (sn slice room q) h =
      let o = framed slice (read_frame slice) (station_at b k) (request.Store q) h.1 in
      rw o.body at (after_same b k (serve slice room) (r.lent k f) r.apart f r.tallied (addressed (sn slice room q) h)).0
  arm_own (wired p v) h = (after_same b k (input k p v) (r.lent k f) r.apart f r.tallied (addressed (wired p v) h)).0

  -- and no other
  concerns_own : (w : Write) → concerns (heard k b.stations (call_to k w)) ≡ at k
  concerns_own (sn slice room q) = body_concerns slice k (station_at b k) (read_body (read_frame slice).body)
  concerns_own (wired p v) = refl

  arm_other : (w : Write) → Accepts (station_at b k) w → (j : ℕ) → (j ≡ k → ⊥) → arm_of j (after b (call_to k w)) ≡ arm_of j b
  unfolding after
  arm_other w h j ne =
      let d = decided b.stations _ k (call_to k w) (r.lent k f) r.apart f (addressed w h) in
      other b j (brings_byte (call_to k w)) (decide_on b (call_to k w)) (sound b.stations _ (call_to k w)) (λ e. let z : j ≡ k = cc (concerns_own w) in ne z)

  ranged : (w : Write) → Accepts (station_at b k) w → Ranged w
  unfolding read_request
  ranged (sn slice room q) h =
      accepted_in_range _ _ (framed slice (read_frame slice) (station_at b k) (request.Store q) h.1).body
  ranged (wired p v) h = h.0

  brings : (w : Write) → Accepts (station_at b k) w → brings_byte (call_to k w) ≡ true
  unfolding brings_byte
  brings (sn slice room q) h = refl
  brings (wired p v) h = le-leb v 255 h.1

  -- the box that it leaves
  ready_after : (w : Write) → Accepts (station_at b k) w → Ready (after b (call_to k w))
  ready_after w h =
      let e = after_stations b (call_to k w) in
      record {
        apart = rw e r.apart;
        small = rw e r.small;
        lent = λ j g. after_length b (call_to k w) ∙ r.lent j (rw e at g);
        tallied = after_tallied b (call_to k w) r.tallied;
        range = after_in b (call_to k w) (brings w h) r.range;
      }

-- ---- over what is answered

-- an LN that cannot be written to station s is refused by its number alone
told_refused : (b : Box) (k s : ℕ) (l : Load) → station_at b k ≡ s → eqb (judge_asked s (request.Load l)) 0 ≡ false
    → told b k l ≡ no_outcome (judge_asked s (request.Load l)) 0
unfolding told read_reply
told_refused b k s l e z = rw (e, z)

-- two boxes of the same stations answer an LN alike where their arms hold the same under it
told_alike : (b c : Box) → Ready b → Ready c → c.stations ≡ b.stations → (j : ℕ) → Fitted j b.stations → (l : Load)
    → (LoadInRange l → holds (arm_of j c) l ≡ holds (arm_of j b) l) → told c j l ≡ told b j l
told_alike b c rb rc st j f l same = go (eqb (judge_asked (station_at b j) (request.Load l)) 0) refl
  where
    go : (t : Bool) → eqb (judge_asked (station_at b j) (request.Load l)) 0 ≡ t → told c j l ≡ told b j l
    go true z =
        let e = eqb-true _ 0 z in
        told_asked c rc j (rw st f) l (rw st e) ∙ ap the_outcome (same (asked_ok _ _ e).1) ∙ sym (told_asked b rb j f l e)
    go false z = told_refused c j _ l (ap (λ t. get_or t j 0) st) z ∙ sym (told_refused b j _ l refl z)

module _ (b : Box) (r : Ready b) (k : ℕ) (f : Fitted k b.stations) where
  written_accepted : (q : Store) → StoreInRange q
      → Accepts (station_at b k) (sn (write_request 64 (station_at b k) (request.Store q)).bytes 64 q)
  unfolding write_request
  written_accepted q e = (omega arith, requests_read_back 64 (station_at b k) (request.Store q) (writable b r k f (request.Store q) e))

  stored_told : (w : Write) → Accepts (station_at b k) w
      → told (after b (call_to k w)) k (item_of w) ≡ replies (given_by w)
  stored_told w h =
      let c : Box = after b (call_to k w) in
      let q : Ready c = ready_after b r k f w h in
      let i = ranged b r k f w h in
      told_held c q k (rw (after_stations b (call_to k w)) f) (item_of w) (item_ranged w i)
      ∙ ap the_outcome (held_same (arm_of k b) (arm_of k c) w (sized b r k f.0) (sized c q k f.0) (arm_own b r k f w h) i)

  others_told : (w : Write) → Accepts (station_at b k) w → (j : ℕ) → Fitted j b.stations
      → (l : Load) → (j ≡ k → Other (item_of w) l) → told (after b (call_to k w)) j l ≡ told b j l
  others_told w h j g l o =
      told_alike b (after b (call_to k w)) r q (after_stations b (call_to k w)) j g l (go (ℕ_discrete j k))
    where
      q : Ready (after b (call_to k w))
      q = ready_after b r k f w h

      go : Dec (j ≡ k) → LoadInRange l → holds (arm_of j (after b (call_to k w))) l ≡ holds (arm_of j b) l
      go (yes e) i =
          rw e (held_other (arm_of k b) (arm_of k (after b (call_to k w))) w (sized b r k f.0) (sized _ q k f.0)
          (arm_own b r k f w h) (ranged b r k f w h) l i (o e))
      go (no n) i = ap (λ a. holds a l) (arm_other b r k f w h j n)

  signals_told : (l : Load) (n : ℕ) → view_of l ≡ bit_at n → LoadInRange l
      → (v : ℕ) × ((told b k (port_of l) ≡ replies (held.Port (pos v))) × (told b k l ≡ replies (held.Signal (pos (bit v n)))))
  signals_told l n e i =
      let s : Shown (arm_of k b) l (bit_at n) = rw e at (shown (arm_of k b) l i) in
      (s.1.0, (told_held b r k f (port_of l) s.0 ∙ ap the_outcome s.1.1.0, told_held b r k f l i ∙ ap the_outcome s.1.1.1))

-- ---- from setup

small_station : (want m : List ℕ) (k : ℕ) → Fitted k (setup want m).stations → get_or (setup want m).stations k 0 ≤ 99
unfolding setup
small_station want m k f = go (eqb (setup_refusal want m) 0) refl
  where
    go : (t : Bool) → eqb (setup_refusal want m) 0 ≡ t → get_or (cond t want (replicate 4 0)) k 0 ≤ 99
    go true z = accepted_small want m k (eqb-true _ 0 z)
    go false z = omega (arith, get_or-replicate {A = ℕ} 4 k 0 0 f.0)

pub store_load : StoreLoad
store_load want m cs k bytes f =
    let b : Box = run (setup want m) cs in
    let st : b.stations ≡ (setup want m).stations = run_stations cs (setup want m) in
    let r : Ready b =
    record {
      apart = rw st (setup_apart want m);
      small = rw st (small_station want m);
      lent = λ j g. run_size want m cs j (rw st at g);
      tallied = always_tallied want m cs;
      range = always_in_range want m cs bytes;
    } in
    let g : Fitted k b.stations = rw st f in
    record { writable = written_accepted b r k g; reads_back = stored_told b r k g; others = others_told b r k g; bits = signals_told b r k g }
