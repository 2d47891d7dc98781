use mathlib.Core.Path.{◌≡◌, sym}
use borrow.Author.Tests.{le-ltb}
use Rattle.reply_writer.specs.Writer.{judge_outcome}
use Rattle.reply_writer.proofs.Texts.{outcome_length}
use Rattle.harl.specs.Message.{judge_asked, judge_reply, write_reply}
use Rattle.harl.proofs.Laws.{wrote_frame}
use Rattle.harl.proofs.message.write_reply.Goals as goal

pub returns : goal.returns
unfolding write_reply judge_reply
returns c =
    let asked : judge_asked c.args.asked.station c.args.asked.request ≡ 0 = sym c.in_ok-judge_asked.ensures in
    let judged : judge_outcome c.rule_of-rule.result c.from-parts.result.number c.args.outcome ≡ 0 = sym c.in_ok-judge_outcome.ensures in
    rw (le-ltb _ _ c.if-area-lt64.false, asked, ← c.from-parts.ensures, ← c.rule_of-rule.ensures, judged)
    (wrote_frame _ _ c.if-area-lt64.false (outcome_length c.rule_of-rule.result.store c.args.outcome).1 c.open_frame-at.ensures c.put_outcome-past.ensures c.close_frame.ensures)
