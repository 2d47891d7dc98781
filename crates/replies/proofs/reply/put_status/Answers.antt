use Rattle.text.proofs.Laws.{put_then}
use Rattle.replies.specs.Reply.{status_text}
use Rattle.replies.proofs.reply.put_status.Goals as goal

pub returns : goal.returns
unfolding status_text
returns c =
    rw c.if-store.false (put_then c.put_byte-digits.ensures c.put_two_digits-2.ensures)
