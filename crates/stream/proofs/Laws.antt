-- Laws of the state: what a line leaves, a line that has ended, the lent tables, bytes of input one after the other and in
-- parts, bytes without LF, and the input's end.
use Prim.Native.Nat.{ℕ, zero, suc, ◌+◌, ◌-◌, ◌≤◌, ◌<◌}
use mathlib.Core.Path.{◌≡◌, refl, sym, ap, ◌∙◌}
use mathlib.Core.Bool.{Bool, true, false, cond}
use mathlib.Core.List.{List, [], ◌∷◌, ◌++◌, append_assoc, append-nil}
use native.Mathlib.Nat.{zero-add}
use native.Mathlib.Numerals.{add-one}
use native.Mathlib.Omega.{arith}
use borrow.Author.Tests.{eq-eqb, ne_eqb, eqb-true}
use lib.ListN.{length, get_or, take, drop, length-drop}
use lib.Seq.{length-sets, take_all, take-add, take-suc, length-take-le}
use lib.Dec.{eqb}
use Rattle.text.specs.Scan.{until, before}
use Rattle.text.proofs.Laws.{rest}
use Rattle.tables.specs.declared.arms.Arms.{Arms}
use Rattle.tables.specs.Arms.{SameTables}
use Rattle.tables.specs.Tables.{Tables}
use Rattle.model.specs.Box.{Box, box, after, perform}
use Rattle.lines.specs.Lines.{is_call, slice_of}
use Rattle.lines.proofs.Laws.{put_behind}
use Rattle.answers.specs.Answers.{line_call, box_after, LineAnswered}
use Rattle.stream.specs.declared.input.Progress.{Progress}
use Rattle.stream.specs.Cell.{Cell, ended, extended, taken, taken_all, finished, cell_at, Within, Took}

-- ---- a line that has ended

left : (b : Box) (slice : List ℕ) (t : Bool) → box b.stations (cond t (after b (line_call slice)) b).tables ≡ cond t (after b (line_call slice)) b
unfolding after perform
left b slice true = refl
left b slice false = refl

-- a line leaves the stations as they were
pub box_is : (b : Box) (line : List ℕ) {t : Tables} → t ≡ (box_after b line).tables → box b.stations t ≡ box_after b line
unfolding box_after
box_is b line e = rw e (left b (slice_of line) (is_call line))

module _ {held out : List ℕ} {p : Progress} (w : Within held out p) where
  pub line_ended : {st line out' : List ℕ} {t t' : Tables} {r : ℕ} → p.waiting + 132 ≤ 65536 → line ≡ take p.held held → LineAnswered (box st t) line out p.waiting r out' t' → cell_at st t' held out' (record { held = 0; waiting = r }) ≡ ended (cell_at st t held out p)
  unfolding ended
  line_ended {st} {line} {t = t} h e a =
      rw (← e, box_is (box st t) line a.tables_are, put_behind a.answer_is (omega (arith, a.short, w.out_size)))

  pub ended_within : {b : Box} {line out' : List ℕ} {t' : Tables} {r : ℕ} → p.waiting + 132 ≤ 65536 → LineAnswered b line out p.waiting r out' t' → Within held out' (record { held = 0; waiting = r })
  ended_within h a =
      record {
        held_size = w.held_size;
        out_size = rw (a.answer_is.area, length-sets) w.out_size;
        held_fits = omega arith;
        waiting_fits = omega (arith, a.short);
      }

-- ---- the lent tables: the same ones

pub still_same : {a b c : Arms} → SameTables a b → SameTables b c → SameTables a c
still_same s t =
    record {
      timers = s.timers ∙ t.timers;
      registers = s.registers ∙ t.registers;
      x = s.x ∙ t.x;
      y = s.y ∙ t.y;
      z = s.z ∙ t.z;
      w = s.w ∙ t.w;
      inputs = s.inputs ∙ t.inputs;
      outputs = s.outputs ∙ t.outputs;
      memory = s.memory ∙ t.memory;
      on = s.on ∙ t.on;
    }

-- ---- bytes of input

pub taken_end : (c : Cell) (b : ℕ) → b ≡ 10 → taken c b ≡ ended c
unfolding taken
taken_end c b h = rw (eq-eqb b 10 h)

pub taken_append : (c : Cell) (xs ys : List ℕ) → taken_all c (xs ++ ys) ≡ taken_all (taken_all c xs) ys
unfolding taken_all
taken_append c [] ys = refl
taken_append c (b ∷ xs) ys = taken_append (taken c b) xs ys

-- the byte at i is taken after those before it
pub taken_next : (c : Cell) (s : List ℕ) (i : ℕ) → i < length s → taken_all c (take (i + 1) s) ≡ taken (taken_all c (take i s)) (get_or s i 0)
unfolding taken_all
taken_next c s i h = rw (add-one i, take-suc s i 0 h) (taken_append c (take i s) (get_or s i 0 ∷ []))

-- ---- what follows i bytes of s

pub part_length : (s : List ℕ) (i : ℕ) → length (take (length s - i) (drop i s)) ≡ length s - i
part_length s i = ap length (rest i s) ∙ length-drop i s

pub part_within : {c d : Cell} (s : List ℕ) (i : ℕ) {n : ℕ} → i ≤ length s → Took c (take (length s - i) (drop i s)) n d → i + n ≤ length s
part_within s i h t = omega (arith, t.within, part_length s i)

pub part_is : {c d : Cell} (s : List ℕ) (i : ℕ) {n : ℕ} → Took c (take (length s - i) (drop i s)) n d → d ≡ taken_all c (take n (drop i s))
part_is s i t = rw rest at t.state_is

pub part_taken : (a : Cell) {c d : Cell} (s : List ℕ) (i : ℕ) {n : ℕ} → c ≡ taken_all a (take i s) → Took c (take (length s - i) (drop i s)) n d → d ≡ taken_all a (take (i + n) s)
part_taken a s i {n} e t =
    part_is s i t ∙ ap (λ (b : Cell). taken_all b (take n (drop i s))) e ∙ sym (rw (take-add i n s) (taken_append a (take i s) (take n (drop i s))))

-- ---- bytes without LF

abbrev pub NoFeed : List ℕ → Type 0
NoFeed [] = Unit
NoFeed (b ∷ s) = (eqb b 10 ≡ false) × NoFeed s

-- those before the first LF
no_feed_before : (s : List ℕ) → NoFeed (take (before 10 s) s)
unfolding until
no_feed_before [] = tt
no_feed_before (b ∷ s) = go (eqb b 10) refl (no_feed_before s)
  where
    go : (t : Bool) → eqb b 10 ≡ t → NoFeed (take (before 10 s) s) → NoFeed (take (cond t zero (suc (before 10 s))) (b ∷ s))
    go true q h = tt
    go false q h = (q, h)

feed_at : (s : List ℕ) → before 10 s < length s → get_or s (before 10 s) 0 ≡ 10
unfolding until
feed_at [] h = absurd (omega arith)
feed_at (b ∷ s) h = go (eqb b 10) refl h (feed_at s)
  where
    go : (t : Bool) → eqb b 10 ≡ t → cond t zero (suc (before 10 s)) < suc (length s) → (before 10 s < length s → get_or s (before 10 s) 0 ≡ 10) → get_or (b ∷ s) (cond t zero (suc (before 10 s))) 0 ≡ 10
    go true q h f = eqb-true b 10 q
    go false q h f = f (omega arith)

-- what a search for LF from the front on finds
module _ (s : List ℕ) (n : ℕ) (e : n ≡ 0 + before 10 (drop 0 s)) where
  pub found_no_feed : NoFeed (take n s)
  found_no_feed = rw (e, zero-add) (no_feed_before s)

  pub found_feed : n < length s → get_or s n 0 ≡ 10
  found_feed h =
      let k : n ≡ before 10 s = omega arith in
      rw k (feed_at s (omega arith))

pub take_again : (n : ℕ) (s t : List ℕ) → take n (take n s ++ t) ≡ take n (s ++ t)
take_again zero s t = refl
take_again (suc n) [] t = refl
take_again (suc n) (a ∷ s) t = ap (λ (l : List ℕ). a ∷ l) (take_again n s t)

pub take_short : (n : ℕ) (s : List ℕ) → length (take n s) ≤ n
take_short zero s = omega arith
take_short (suc n) [] = omega arith
take_short (suc n) (a ∷ s) = omega (arith, take_short n s)

-- they are all part of the line
extended_all : (s : List ℕ) (c : Cell) → NoFeed s → length c.line ≤ 513 → taken_all c s ≡ record { box = c.box; line = take 513 (c.line ++ s); output = c.output }
unfolding taken_all taken extended
extended_all [] c h l = rw (append-nil c.line, take_all 513 c.line l)
extended_all (b ∷ s) c h l =
    rw h.0 (extended_all s (extended c b) h.1 (take_short 513 (c.line ++ (b ∷ []))) ∙ rw (take_again 513 (c.line ++ (b ∷ [])) s, append_assoc c.line (b ∷ []) s))

-- ---- the input's end

module _ {held out : List ℕ} {p : Progress} (w : Within held out p) where
  -- as many bytes are held as the progress says
  held_count : length (take p.held held) ≡ p.held
  held_count = length-take-le p.held held (omega (arith, w.held_size, w.held_fits))

  pub finished_empty : (st : List ℕ) (t : Tables) → p.held ≡ 0 → finished (cell_at st t held out p) ≡ cell_at st t held out p
  unfolding finished
  finished_empty st t e = rw (eq-eqb (length (take p.held held)) 0 (held_count ∙ e))

  pub finished_more : (st : List ℕ) (t : Tables) → (p.held ≡ 0 → ⊥) → finished (cell_at st t held out p) ≡ ended (cell_at st t held out p)
  unfolding finished
  finished_more st t n = rw (ne_eqb (length (take p.held held)) 0 (λ e. n (sym held_count ∙ e)))

  pub line_grown : {st line : List ℕ} {t : Tables} (s : List ℕ) → NoFeed s → line ≡ take 513 (take p.held held ++ s) → record { box = box st t; line = line; output = take p.waiting out } ≡ taken_all (cell_at st t held out p) s
  line_grown {st} {line} {t} s h e = rw e (sym (extended_all s (cell_at st t held out p) h (omega (arith, held_count, w.held_fits))))
