-- The program `cell` prints the answers to the lines of its input, however it is cut.
use Prim.Native.Nat.{ℕ}
use mathlib.Core.Path.{◌≡◌, refl, sym, ap, ◌∙◌}
use mathlib.Core.Bool.{Bool, true, false, cond}
use mathlib.Core.List.{List, [], ◌∷◌, ◌++◌, flatten, append_assoc, append-nil}
use native.Mathlib.Omega.{arith}
use lib.ListN.{length, take}
use lib.Dec.{eqb}
use borrow.Author.Tests.{eqb-true, ne_eqb}
use Rattle.model.specs.Box.{Box}
use Rattle.lines.specs.Lines.{is_call}
use Rattle.lines.proofs.Back.{held_reads_same}
use Rattle.answers.specs.Answers.{line_answer, box_after}
use Rattle.stream.specs.Cell.{Cell, ended, extended, taken, taken_all, finished, preceded}
use Rattle.stream.specs.Input.{prepend, lines_of, line_answers, box_after_all, cleared, printed, last_box, WholeInput}
use Rattle.stream.proofs.Laws.{taken_append, NoFeed, take_again}

-- ---- output that stands before: it changes nothing else

module _ (w : List ℕ) (c : Cell) where
  ended_preceded : ended (preceded w c) ≡ preceded w (ended c)
  unfolding ended
  ended_preceded = rw (append_assoc w c.output (line_answer c.box c.line))

  extended_preceded : (b : ℕ) → extended (preceded w c) b ≡ preceded w (extended c b)
  unfolding extended
  extended_preceded b = refl

  taken_preceded : (b : ℕ) → taken (preceded w c) b ≡ preceded w (taken c b)
  unfolding taken
  taken_preceded b = go (eqb b 10)
    where
      go : (t : Bool) → cond t (ended (preceded w c)) (extended (preceded w c) b) ≡ preceded w (cond t (ended c) (extended c b))
      go true = ended_preceded
      go false = extended_preceded b

  finished_preceded : finished (preceded w c) ≡ preceded w (finished c)
  unfolding finished
  finished_preceded = go (eqb (length c.line) 0)
    where
      go : (t : Bool) → cond t (preceded w c) (ended (preceded w c)) ≡ preceded w (cond t c (ended c))
      go true = refl
      go false = ended_preceded

pub taken_all_preceded : (w : List ℕ) (c : Cell) (bs : List ℕ) → taken_all (preceded w c) bs ≡ preceded w (taken_all c bs)
unfolding taken_all
taken_all_preceded w c [] = refl
taken_all_preceded w c (b ∷ bs) = ap (λ (d : Cell). taken_all d bs) (taken_preceded w c b) ∙ taken_all_preceded w (taken c b) bs

pub cleared_preceded : (c : Cell) → preceded c.output (cleared c) ≡ c
cleared_preceded c = rw (append-nil c.output)

-- ---- an input in parts is the input whole

cut : (c : Cell) (bs : List ℕ) → finished (taken_all c bs) ≡ preceded c.output (finished (taken_all (cleared c) bs))
cut c bs =
    ap (λ (d : Cell). finished (taken_all d bs)) (sym (cleared_preceded c)) ∙ ap finished (taken_all_preceded c.output (cleared c) bs) ∙ finished_preceded c.output (taken_all (cleared c) bs)

printed_whole : (c : Cell) (ps : List (List ℕ)) → printed c ps ≡ (finished (taken_all c (flatten ps))).output
unfolding printed taken_all flatten
printed_whole c [] = refl
printed_whole c (p ∷ ps) =
    let d = taken_all c p in
    ap (λ (o : List ℕ). d.output ++ o) (printed_whole (cleared d) ps) ∙ sym (ap (λ (e : Cell). (finished e).output) (taken_append c p (flatten ps)) ∙ ap (λ (e : Cell). e.output) (cut d (flatten ps)))

last_whole : (c : Cell) (ps : List (List ℕ)) → last_box c ps ≡ (finished (taken_all c (flatten ps))).box
unfolding last_box taken_all flatten
last_whole c [] = refl
last_whole c (p ∷ ps) =
    let d = taken_all c p in
    last_whole (cleared d) ps ∙ sym (ap (λ (e : Cell). (finished e).box) (taken_append c p (flatten ps)) ∙ ap (λ (e : Cell). e.box) (cut d (flatten ps)))

-- ---- lines

no_feed_more : (s : List ℕ) (b : ℕ) → NoFeed s → eqb b 10 ≡ false → NoFeed (s ++ (b ∷ []))
no_feed_more [] b h e = (e, tt)
no_feed_more (a ∷ s) b h e = (h.0, no_feed_more s b h.1 e)

lines_ended : (s bs : List ℕ) → NoFeed s → lines_of (s ++ (10 ∷ bs)) ≡ s ∷ lines_of bs
unfolding lines_of prepend
lines_ended [] bs h = refl
lines_ended (b ∷ s) bs h = rw (h.0, lines_ended s bs h.1)

lines_rest : (b : ℕ) (s : List ℕ) → NoFeed (b ∷ s) → lines_of (b ∷ s) ≡ (b ∷ s) ∷ []
unfolding lines_of prepend
lines_rest b [] h = rw h.0
lines_rest b (a ∷ s) h = rw (h.0, lines_rest a s h.1)

-- ---- a line of which 513 bytes are held

held_answer : (b : Box) (s : List ℕ) → line_answer b (take 513 s) ≡ line_answer b s
unfolding line_answer
held_answer b s = go (is_call s) refl
  where
    go : (t : Bool) → is_call s ≡ t → line_answer b (take 513 s) ≡ line_answer b s
    go true q = rw ((held_reads_same s).0, q, (held_reads_same s).1 q)
    go false q = rw ((held_reads_same s).0, q)

held_box : (b : Box) (s : List ℕ) → box_after b (take 513 s) ≡ box_after b s
unfolding box_after
held_box b s = go (is_call s) refl
  where
    go : (t : Bool) → is_call s ≡ t → box_after b (take 513 s) ≡ box_after b s
    go true q = rw ((held_reads_same s).0, q, (held_reads_same s).1 q)
    go false q = rw ((held_reads_same s).0, q)

-- the state where s came of a line
abbrev in_line : Box → List ℕ → List ℕ → Cell
in_line b s o = record { box = b; line = take 513 s; output = o }

ended_line : (b : Box) (s o : List ℕ) → ended (in_line b s o) ≡ in_line (box_after b s) [] (o ++ line_answer b s)
unfolding ended
ended_line b s o = rw (held_answer b s, held_box b s)

extended_line : (b : Box) (s o : List ℕ) (a : ℕ) → extended (in_line b s o) a ≡ in_line b (s ++ (a ∷ [])) o
unfolding extended
extended_line b s o a = ap (λ (l : List ℕ). record { box = b; line = l; output = o }) (take_again 513 s (a ∷ []))

-- ---- the whole input

-- c ends with the answers to the lines behind o, and with the box that they leave
record Ends (b : Box) (o : List ℕ) (lines : List (List ℕ)) (c : Cell) : Type 0 where
  output_is : c.output ≡ o ++ line_answers b lines
  box_is : c.box ≡ box_after_all b lines

ends_empty : (b : Box) (o : List ℕ) → Ends b o (lines_of []) (finished (in_line b [] o))
unfolding finished lines_of line_answers box_after_all
ends_empty b o = record { output_is = sym (append-nil o); box_is = refl }

ends_line : (b : Box) (o : List ℕ) (l : List ℕ) → Ends b o (l ∷ []) (in_line (box_after b l) [] (o ++ line_answer b l))
unfolding line_answers box_after_all
ends_line b o l = record { output_is = rw append-nil; box_is = refl }

ends_more : (b : Box) (o l : List ℕ) (ls : List (List ℕ)) (c : Cell) → Ends (box_after b l) (o ++ line_answer b l) ls c → Ends b o (l ∷ ls) c
unfolding line_answers box_after_all
ends_more b o l ls c e = record { output_is = e.output_is ∙ append_assoc o (line_answer b l) (line_answers (box_after b l) ls); box_is = e.box_is }

ends_held : (b : Box) (o : List ℕ) (a : ℕ) (s : List ℕ) → NoFeed (a ∷ s) → Ends b o (lines_of (a ∷ s)) (finished (in_line b (a ∷ s) o))
unfolding finished
ends_held b o a s h =
    rw (ne_eqb (length (take 513 (a ∷ s))) 0 (λ e. omega arith), lines_rest a s h, ended_line b (a ∷ s) o) (ends_line b o (a ∷ s))

ends : (bs s : List ℕ) (b : Box) (o : List ℕ) → NoFeed s → Ends b o (lines_of (s ++ bs)) (finished (taken_all (in_line b s o) bs))
unfolding taken_all taken
ends [] [] b o h = ends_empty b o
ends [] (a ∷ s) b o h = rw (append-nil s) (ends_held b o a s h)
ends (a ∷ bs) s b o h = go (eqb a 10) refl (λ b o. ends bs [] b o tt) (λ e. ends bs (s ++ (a ∷ [])) b o (no_feed_more s a h e))
  where
    go : (t : Bool) → eqb a 10 ≡ t → ((b : Box) (o : List ℕ) → Ends b o (lines_of bs) (finished (taken_all (in_line b [] o) bs))) → (eqb a 10 ≡ false → Ends b o (lines_of ((s ++ (a ∷ [])) ++ bs)) (finished (taken_all (in_line b (s ++ (a ∷ [])) o) bs))) → Ends b o (lines_of (s ++ (a ∷ bs))) (finished (taken_all (cond (eqb a 10) (ended (in_line b s o)) (extended (in_line b s o) a)) bs))
    go true q line rest =
        rw (q, eqb-true a 10 q, ended_line b s o, lines_ended s bs h) (ends_more b o s (lines_of bs) _ (line (box_after b s) (o ++ line_answer b s)))
    go false q line rest =
        rw (q, extended_line b s o a, ← append_assoc s (a ∷ []) bs) (rest q)

pub whole_input : WholeInput
whole_input b ps =
    let e = ends (flatten ps) [] b [] tt in
    (printed_whole _ ps ∙ e.output_is, last_whole _ ps ∙ e.box_is)
