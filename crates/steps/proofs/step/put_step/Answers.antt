use Prim.Native.Nat.{ℕ, ◌+◌, ◌≤◌, ◌<◌}
use mathlib.Core.Path.{◌≡◌, refl, ap, ◌∙◌}
use mathlib.Core.List.{List, [], ◌∷◌, ◌++◌, map}
use native.Mathlib.Omega.{arith}
use native.Mathlib.Numerals.{add-one}
use lib.ListN.{length, get_or, drop, length-append, drop_of_length-le}
use lib.Seq.{drop-cons}
use Rattle.text.specs.Put.{Put}
use Rattle.text.specs.declared.put.Cursor.{Cursor}
use Rattle.text.proofs.Laws.{put_then}
use Rattle.text.proofs.Parts.{Left, moved, done}
use Rattle.steps.specs.declared.texts.Text.{Text}
use Rattle.steps.specs.declared.step.Step.{Step}
use Rattle.steps.specs.Text.{chars_of, text}
use Rattle.steps.specs.Step.{texts_of, step_text}
use Rattle.steps.proofs.Laws.{up_none, up_stop, up_more}
use Rattle.steps.proofs.step.put_step.Invariants.{data_text}
use Rattle.steps.proofs.step.put_step.Goals as goal

module _ (ts : List Text) (i : ℕ) where
  past : length ts ≤ i → data_text (drop i ts) ≡ []
  past h = rw (drop_of_length-le ts h, up_none)

  module _ (h : i < length ts) where
    here : drop i ts ≡ get_or ts i (text 0) ∷ drop (i + 1) ts
    here = rw (add-one, drop-cons ts i (text 0) h)

    stop : (get_or ts i (text 0)).0 ≡ 0 → data_text (drop i ts) ≡ []
    stop z = rw (here, up_stop (get_or ts i (text 0)).0 (map (λ t. t.0) (drop (i + 1) ts)) z)

    next : ((get_or ts i (text 0)).0 ≡ 0 → ⊥) → data_text (drop i ts) ≡ (32 ∷ chars_of (get_or ts i (text 0)).0) ++ data_text (drop (i + 1) ts)
    next n = rw (here, up_more (get_or ts i (text 0)).0 (map (λ t. t.0) (drop (i + 1) ts)) n)

module _ (s : Step) where
  abbrev data_of : List Text
  data_of = s.first ∷ s.second ∷ s.third ∷ s.fourth ∷ []

  whole : step_text s ≡ chars_of s.command.0 ++ data_text data_of
  unfolding step_text texts_of
  whole = refl

  first_fits : (at room : ℕ) → at + length (step_text s) ≤ room → at + length (chars_of s.command.0) ≤ room
  first_fits at room h = omega (arith, ap length whole, length-append (chars_of s.command.0) (data_text data_of))

  -- after the command, at p of ys
  module _ {xs : List ℕ} {to p : Cursor} {ys : List ℕ} (room : to.at + length (step_text s) ≤ length xs) (w : Put xs to (chars_of s.command.0) p ys) (kept : length ys ≡ length xs) where
    rest_fits : p.at + length (data_text data_of) ≤ length ys
    rest_fits = omega (arith, w.next, ap length whole, length-append (chars_of s.command.0) (data_text data_of))

    module _ {zs : List ℕ} {q : Cursor} (i : ℕ) (h : Left ys p (data_text data_of) zs q (data_text (drop i data_of))) where
      next_fits : i < length data_of → ((get_or data_of i (text 0)).0 ≡ 0 → ⊥) → q.at + 1 + length (chars_of (get_or data_of i (text 0)).0) ≤ length zs
      next_fits l n =
          omega (
            arith,
            h.next,
            h.size,
            rest_fits,
            ap length (next data_of i l n),
            length-append (chars_of (get_or data_of i (text 0)).0) (data_text (drop (i + 1) data_of)),
          )

      ended : data_text (drop i data_of) ≡ [] → Put xs to (step_text s) q zs
      ended z = rw whole (put_then w (done (rw z at h)))

pub put_text-end-requires : goal.put_text-end-requires
put_text-end-requires c =
    first_fits c.args.step c.args.to.at _ c.requires

pub returns-then-datum-eq0 : goal.returns-then-datum-eq0
returns-then-datum-eq0 c =
    ended c.args.step c.requires c.put_text-end.ensures c.put_text-end.auto.area c.loop-datum.datum-index c.loop-datum.invariant
    (stop (data_of c.args.step) c.loop-datum.datum-index c.loop-datum-test.true c.if-datum-eq0.true)

pub put_byte-from-requires : goal.put_byte-from-requires
put_byte-from-requires c =
    omega (arith, next_fits c.args.step c.requires c.put_text-end.ensures c.put_text-end.auto.area c.loop-datum.datum-index c.loop-datum.invariant c.loop-datum-test.true c.if-datum-eq0.false)

pub put_text-end-requires-in-loop-datum : goal.put_text-end-requires-in-loop-datum
put_text-end-requires-in-loop-datum c =
    omega (arith, c.put_byte-from.ensures.next, c.put_byte-from.auto.area, next_fits c.args.step c.requires c.put_text-end.ensures c.put_text-end.auto.area c.loop-datum.datum-index c.loop-datum.invariant c.loop-datum-test.true c.if-datum-eq0.false)

pub loop-datum-preserved : goal.loop-datum-preserved
loop-datum-preserved c =
    let d : Text = get_or (data_of c.args.step) c.loop-datum.datum-index (text 0) in
    let e = next (data_of c.args.step) c.loop-datum.datum-index c.loop-datum-test.true c.if-datum-eq0.false in
    moved (32 ∷ chars_of d.0) (rw e at c.loop-datum.invariant) (put_then c.put_byte-from.ensures c.put_text-end-in-loop-datum.ensures)
    (c.put_text-end-in-loop-datum.auto.area ∙ c.put_byte-from.auto.area)

pub returns : goal.returns
returns c =
    ended c.args.step c.requires c.put_text-end.ensures c.put_text-end.auto.area c.loop-datum.datum-index c.loop-datum.invariant
    (past (data_of c.args.step) c.loop-datum.datum-index c.loop-datum-test.false)
