use native.Mathlib.Omega.{arith}
use Rattle.text.proofs.Laws.{put_at, put_at_then}
use Rattle.text.proofs.Digits.{two_length}
use Rattle.lines.specs.Lines.{answer_line}
use Rattle.lines.proofs.Laws.{answer_length}
use Rattle.lines.proofs.writer.put_answer.Goals as goal

pub put_two_digits-behind-requires : goal.put_two_digits-behind-requires
put_two_digits-behind-requires c =
    omega (arith, answer_length c.args.number c.args.reply.now)

pub put_reply-end-requires : goal.put_reply-end-requires
put_reply-end-requires c =
    omega (arith, answer_length c.args.number c.args.reply.now, two_length c.args.number, c.put_two_digits-behind.auto.area, c.put_two_digits-behind.ensures.next)

pub put_byte-requires : goal.put_byte-requires
put_byte-requires c =
    omega (arith, answer_length c.args.number c.args.reply.now, two_length c.args.number, c.put_two_digits-behind.auto.area, c.put_two_digits-behind.ensures.next, c.put_reply-end.auto.out, c.put_reply-end.ensures.next)

pub returns : goal.returns
unfolding answer_line
returns c =
    put_at_then (put_at c.put_two_digits-behind.ensures) (put_at_then c.put_reply-end.ensures (put_at c.put_byte.ensures))
