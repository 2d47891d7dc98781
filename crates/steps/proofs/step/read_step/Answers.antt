use Prim.Native.Nat.{◌≤◌}
use mathlib.Core.Path.{sym, ◌∙◌}
use native.Mathlib.Omega.{arith}
use borrow.Author.Rules.{rules}
use lib.Dec.{eqb}
use lib.ListN.{length, drop, length-drop}
use Rattle.std.proofs.lemmas.Result.{err_from_is_err_and}
use Rattle.text.proofs.Fields.{until_within}
use Rattle.frame.proofs.Placed.{placed_texts}
use Rattle.frame.proofs.Spaced.{some_left}
use Rattle.text.proofs.Read.{was_read, was_wrong}
use Rattle.steps.proofs.step.read_step.Invariants.{step_read, form, answer, all_read, too_many, unread, read}
use Rattle.steps.proofs.step.read_step.Goals as goal

pub loop-i-init : goal.loop-i-init
unfolding answer form
loop-i-init c =
    record {
      rest = rw (some_left c.args.from.text.now c.args.from.index c.args.from.in_bounds, placed_texts c.args.from.index (drop c.args.from.index c.args.from.text.now), step_read (drop c.args.from.index c.args.from.text.now));
    }

pub returns-then-text-next : goal.returns-then-text-next
returns-then-text-next c =
    rw c.from.ensures (all_read c.loop-i.invariant c.if-text-next.true)

pub returns-in_err-texts : goal.returns-in_err-texts
returns-in_err-texts c =
    let p = err_from_is_err_and c.from_residual.result c.from_residual.ensures.1 in
    let w = was_wrong _ _ (sym c.in_err-texts.was ∙ c.read_text-read.ensures.text_value) in
    rw (p.1, p.2, w.1) (unread c.loop-i.invariant c.if-text-next.false c.loop-i-test.true w.0)

pub overflow_add-next : goal.overflow_add-next
overflow_add-next c =
    let e : c.read_text-read.result.end ≤ length c.args.from.text.now = omega (arith, c.read_text-read.ensures.end_value, until_within (λ b. eqb b 32) (drop c.loop-i.next c.args.from.text.now), length-drop c.loop-i.next c.args.from.text.now, c.if-text-next.false) in
    search rules

pub loop-i-preserved : goal.loop-i-preserved
loop-i-preserved c =
    rw c.read_text-read.ensures.end_value
    (read c.loop-i.invariant c.if-text-next.false c.loop-i-test.true (was_read _ _ (sym c.in_ok-texts.was ∙ c.read_text-read.ensures.text_value)))

pub returns-then-next-text : goal.returns-then-next-text
returns-then-next-text c =
    too_many c.loop-i.invariant c.if-next-text.true c.loop-i-test.false

pub returns : goal.returns
returns c =
    rw c.from-2.ensures (all_read c.loop-i.invariant c.if-next-text.false)
