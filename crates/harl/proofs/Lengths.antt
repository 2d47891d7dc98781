-- No request that can be written has more than 58 bytes, and no reply more than 54.
use Prim.Native.Nat.{ℕ, ◌+◌, ◌≤◌}
use mathlib.Core.Path.{◌≡◌, refl, ap}
use mathlib.Core.Bool.{Bool, true, false, cond}
use mathlib.Core.List.{List, [], ◌∷◌}
use native.Mathlib.Omega.{arith}
use borrow.Author.Tests.{eqb-true, ltb-true}
use lib.Dec.{ltb, eqb}
use lib.ListN.{length, length-append}
use Rattle.text.specs.Whole.{digit, leading, shortest}
use Rattle.text.proofs.Digits.{shortest_grows}
use Rattle.frame.specs.Frame.{frame_of}
use Rattle.frame.proofs.Writing.{frame_length}
use Rattle.commands.specs.declared.table.Form.{Form}
use Rattle.commands.specs.declared.table.Form.TheVariants.{Numbers, Texts}
use Rattle.commands.specs.declared.request.Request.{Request}
use Rattle.names.specs.Command.{name_of}
use Rattle.names.proofs.Names.{name}
use Rattle.commands.specs.Table.{rule_of}
use Rattle.commands.specs.Request.{parts_of}
use Rattle.bodies.specs.Body.{body_text}
use Rattle.replies.specs.declared.reply.Data.{Data}
use Rattle.replies.specs.declared.reply.Outcome.{Outcome}
use Rattle.replies.specs.declared.reply.Outcome.TheVariants as outcome
use Rattle.replies.specs.Reply.{content_of, number_part, content_text}
use Rattle.reply_writer.specs.Writer.{number_fits, judge_outcome, outcome_text}
use Rattle.harl.specs.Message.{rule_for, judge_request, judge_asked, write_request, judge_reply, write_reply}
use Rattle.harl.specs.Length.{RequestsShort, RepliesShort}
use Rattle.data.proofs.Bounds.{passed}
use Rattle.data.specs.Data.{data_text}
use Rattle.data.proofs.Texts.{most_bytes, data_length}
use Rattle.harl.proofs.Laws.{check_passed, fitting}
use Rattle.bodies.proofs.Bodies.{body_parts, part_length}
use Rattle.replies.proofs.Texts.{status_length}
use Rattle.harl.proofs.Requests.{sound, asked_ok}
use Rattle.harl.proofs.Replies.{checked_then}

-- a station has at most two digits
two_digits : (st : ℕ) → st ≤ 99 → length (shortest st) ≤ 2
unfolding shortest leading digit
two_digits st h = shortest_grows st 99 h

-- what a writer gives where it is refused is no longer
unless_refused : (n most : ℕ) (bytes : List ℕ) → (n ≡ 0 → length bytes ≤ most) → length (cond (eqb n 0) bytes []) ≤ most
unless_refused n most bytes h = go (eqb n 0) refl
  where
    go : (t : Bool) → eqb n 0 ≡ t → length (cond t bytes []) ≤ most
    go true e = h (eqb-true n 0 e)
    go false e = omega arith

asked_short : (st : ℕ) (r : Request) → judge_asked st r ≡ 0 → length (frame_of st (body_text (parts_of r))) ≤ 58
asked_short st r e =
    let a = asked_ok st r e in
    let p = parts_of r in
    let rule = rule_of p.command in
    omega (
      arith,
      frame_length st (body_text p),
      two_digits st a.0.1,
      body_parts p,
      shortest_grows p.number rule.last (passed rule p.number p.payload a.1).high,
      part_length rule.store rule.form p.payload,
      ltb-true (length (name_of p.command) + (length (shortest rule.last) + (1 + most_bytes rule.form))) 52 (sound p.command).short,
    )

pub requests_short : RequestsShort
unfolding write_request
requests_short room st r =
    unless_refused _ _ (frame_of st (body_text (parts_of r))) (λ (e : cond (ltb room 64) 1 (judge_asked st r) ≡ 0).
    omega (arith, asked_short st r (check_passed (ltb room 64) 1 (judge_asked st r) (omega arith) e).1))

-- before the texts of a step stands the asked number
part_short : (f : Form) (asked n : ℕ) → number_fits f asked n ≡ true → length (number_part f n) ≤ length (shortest asked) + 1
part_short (Numbers k) asked n e = omega arith
part_short Texts asked n e = rw (eqb-true n asked e) (omega (arith, length-append (shortest asked) (32 ∷ [])))

-- data that answer a request, whose name has three letters at least
content_short : (r : Request) (d : Data) → judge_request r ≡ 0 → judge_outcome (rule_for r) (parts_of r).number (outcome.Data d) ≡ 0 → length (content_text (content_of d)) ≤ 48
content_short r d e j =
    let p = parts_of r in
    let c = content_of d in
    let f = fitting (rule_for r) p.number d j in
    omega (
      arith,
      length-append (number_part c.form c.number) (data_text c.form c.payload),
      part_short c.form p.number c.number (rw f.form f.number),
      data_length c.form c.payload,
      ap most_bytes f.form,
      shortest_grows p.number (rule_for r).last (passed (rule_for r) p.number p.payload e).high,
      ltb-true 2 (length (name_of p.command)) (name p.command).least,
      ltb-true (length (name_of p.command) + (length (shortest (rule_for r).last) + (1 + most_bytes (rule_for r).form))) 52 (sound p.command).short,
    )

outcome_short : (r : Request) (o : Outcome) → judge_request r ≡ 0 → judge_outcome (rule_for r) (parts_of r).number o ≡ 0 → length (outcome_text (rule_for r).store o) ≤ 48
unfolding outcome_text
outcome_short r (outcome.Data d) e j = content_short r d e j
outcome_short r (outcome.Status n) e j = omega (arith, (status_length (rule_for r).store n).1)

pub replies_short : RepliesShort
unfolding write_reply judge_reply
replies_short room st r o =
    unless_refused _ _ _ (λ e.
    let j = checked_then (judge_asked st r) (judge_outcome (rule_for r) (parts_of r).number o) (check_passed (ltb room 64) 1 _ (omega arith) e).1 in
    let a = asked_ok st r j.0 in
    omega (arith, frame_length st (outcome_text (rule_for r).store o), two_digits st a.0.1, outcome_short r o a.1 j.1))
