use Rattle.std.proofs.Common.{ap, sym, length, arith}
use borrow.Author.Tests.{eqb-true, eqb-false}
use Rattle.text.proofs.Laws.{put_at, put_at_none, put_at_then}
use Rattle.lines.proofs.Laws.{reply_none, reply_some}
use Rattle.lines.proofs.writer.put_reply.Goals as goal

pub returns-then-is_empty : goal.returns-then-is_empty
returns-then-is_empty c =
    rw (reply_none c.args.reply.now (eqb-true _ _ (sym c.if-is_empty.ensures))) (put_at_none c.args.out.now c.args.at)

pub put_byte-first-requires : goal.put_byte-first-requires
put_byte-first-requires c =
    let r = reply_some c.args.reply.now (eqb-false _ _ (sym c.if-is_empty.ensures)) in
    omega (arith, ap length r)

pub put_hex-requires : goal.put_hex-requires
put_hex-requires c =
    let r = reply_some c.args.reply.now (eqb-false _ _ (sym c.if-is_empty.ensures)) in
    omega (arith, ap length r, c.put_byte-first.auto.area, c.put_byte-first.ensures.next)

pub returns : goal.returns
returns c =
    let r = reply_some c.args.reply.now (eqb-false _ _ (sym c.if-is_empty.ensures)) in
    rw r (put_at_then (put_at c.put_byte-first.ensures) c.put_hex.ensures)
