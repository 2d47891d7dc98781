use Rattle.text.proofs.Laws.{put_none, put_then}
use Rattle.replies.proofs.reply.put_number.Goals as goal

pub returns-in-Numbers : goal.returns-in-Numbers
returns-in-Numbers c =
    rw c.in-Numbers.is (put_none _ _)

pub returns-in-Texts : goal.returns-in-Texts
returns-in-Texts c =
    rw c.in-Texts.is (put_then c.put_shortest-end.ensures c.put_byte.ensures)
