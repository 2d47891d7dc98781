use Rattle.text.proofs.Laws.{put_then}
use Rattle.replies.proofs.reply.put_held.Goals as goal

pub returns : goal.returns
returns c =
    rw (← c.from-content.ensures) (put_then c.put_number-from.ensures c.put_data.ensures)
