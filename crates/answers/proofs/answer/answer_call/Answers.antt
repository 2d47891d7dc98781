-- The reply area has 64 bytes, so the line of an answer has at most 132.
use Prim.Native.Nat.{ℕ, ◌+◌, ◌≤◌}
use mathlib.Core.Path.{◌≡◌, refl}
use mathlib.Core.List.{List}
use native.Mathlib.Omega.{arith}
use lib.ListN.{length, take}
use lib.Seq.{length-take-le, length-sets}
use Rattle.text.specs.Put.{PutAt}
use Rattle.frame.proofs.Writing.{front_is}
use Rattle.harl.specs.declared.message.Sent.{Sent}
use Rattle.tables.specs.Tables.{Tables}
use Rattle.model.specs.Box.{Box, answer}
use Rattle.gateway.specs.Entries.{Served}
use Rattle.gateway.proofs.Replies.{served_fits}
use Rattle.lines.specs.Lines.{answer_line}
use Rattle.lines.proofs.Laws.{answer_short}
use Rattle.answers.specs.Answers.{line_call, CallAnswered}
use Rattle.answers.proofs.answer.answer_call.Goals as goal

module _ {b : Box} {slice xs ys : List ℕ} {sent : Sent} {t : Tables} (room : length xs ≡ 64) (s : Served b slice xs sent t ys) where
  within : sent.length ≤ length ys
  within = rw (s.answer_is.area, length-sets) (served_fits s)

  number_is : sent.number ≡ (answer b (line_call slice)).number
  number_is = rw (← room) s.answer_is.number

  -- the reply is the first bytes of its area
  reply_is : take sent.length ys ≡ (answer b (line_call slice)).reply
  reply_is = rw (s.answer_is.area, s.answer_is.length_is, ← room) (front_is xs _ s.answer_is.fits)

  -- a line of any number has room where 132 bytes have
  line_fits : (n at end : ℕ) → at + 132 ≤ end → at + length (answer_line n (take sent.length ys)) ≤ end
  line_fits n at end h = omega (arith, answer_short n (take sent.length ys), length-take-le sent.length ys within, served_fits s)

  answered : {zs us : List ℕ} {at r : ℕ} → PutAt zs at (answer_line sent.number (take sent.length ys)) r us → CallAnswered b slice zs at r us t
  answered p =
      record {
        answer_is = rw (reply_is, number_is) at p;
        tables_are = rw room at s.tables_are;
        short = omega (arith, p.next, line_fits sent.number 0 132 (omega arith));
      }

pub put_answer-requires : goal.put_answer-requires
put_answer-requires c =
    line_fits refl c.serve-sent.ensures.served _ _ _ (omega arith)

pub returns-clause-answered : goal.returns-clause-answered
returns-clause-answered c =
    answered refl c.serve-sent.ensures.served c.put_answer.ensures
