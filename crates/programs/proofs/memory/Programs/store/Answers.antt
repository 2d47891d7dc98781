use Prim.Native.Nat.{ℕ, ◌+◌, ◌≤◌, ◌<◌}
use mathlib.Core.Path.{◌≡◌, sym, ap, ◌∙◌}
use mathlib.Core.List.{List, [], ◌∷◌, append-nil}
use native.Mathlib.Omega.{arith}
use native.Mathlib.Numerals.{add-one}
use lib.ListN.{length, get_or, drop, drop_of_length-le}
use lib.Seq.{drop-cons, sets}
use Rattle.text.specs.Put.{PutAt}
use Rattle.text.proofs.Laws.{sets_append}
use Rattle.steps.specs.declared.texts.Text.{Text}
use Rattle.steps.specs.declared.step.Step.{Step}
use Rattle.steps.specs.Text.{text}
use Rattle.programs.specs.Memory.{bytes_of, step_bytes, stored}
use Rattle.programs.proofs.Laws.{eight}
use Rattle.programs.proofs.memory.Programs.store.Invariants.{texts_bytes, Begun}
use Rattle.programs.proofs.memory.Programs.store.Goals as goal

module _ {m : List ℕ} {p : ℕ} {ts : List Text} {i : ℕ} {now : List ℕ} {at : ℕ} (b : Begun m p ts i now at) where
  -- one more is written
  written : i < length ts → {r : ℕ} {ys : List ℕ} → PutAt now at (bytes_of (get_or ts i (text 0)).0) r ys → Begun m p ts (i + 1) ys r
  written h w =
      let t : Text = get_or ts i (text 0) in
      let d : drop i ts ≡ t ∷ drop (i + 1) ts = rw (add-one, drop-cons ts i (text 0) h) in
      record {
        next = omega (arith, b.next, eight t.0 w);
        bytes = rw (w.area, w.next, ← sets_append now at (bytes_of t.0) (texts_bytes (drop (i + 1) ts))) (ap (λ (l : List Text). sets now at (texts_bytes l)) (sym d) ∙ b.bytes);
      }

  -- all are
  all_written : length ts ≤ i → now ≡ sets m p (texts_bytes ts)
  all_written h = rw drop_of_length-le at b.bytes

texts_of_step : (s : Step) → texts_bytes (s.command ∷ s.first ∷ s.second ∷ s.third ∷ s.fourth ∷ []) ≡ step_bytes s
unfolding step_bytes
texts_of_step s = rw (append-nil (bytes_of s.fourth.0))

pub loop-text-preserved : goal.loop-text-preserved
loop-text-preserved c =
    (written c.loop-text.invariant.0 c.loop-text-test.true c.put_packed-at.ensures, c.loop-text.invariant.1)

pub returns-clause-bytes_after : goal.returns-clause-bytes_after
unfolding stored
returns-clause-bytes_after c =
    all_written c.loop-text.invariant.0 c.loop-text-test.false ∙ rw (texts_of_step c.args.step)
