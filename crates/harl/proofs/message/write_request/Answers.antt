use mathlib.Core.Path.{◌≡◌, sym}
use borrow.Author.Tests.{le-ltb}
use Rattle.bodies.proofs.Bodies.{body_length}
use Rattle.harl.specs.Message.{write_request, judge_asked}
use Rattle.harl.proofs.Laws.{wrote_frame}
use Rattle.harl.proofs.message.write_request.Goals as goal

pub returns : goal.returns
unfolding write_request
returns c =
    let asked : judge_asked c.args.asked.station c.args.asked.request ≡ 0 = sym c.in_ok-judge_asked.ensures in
    rw (le-ltb _ _ c.if-area-lt64.false, asked, ← c.into.ensures)
    (wrote_frame _ _ c.if-area-lt64.false (body_length c.into.result).1 c.open_frame-at.ensures c.put_body-end.ensures c.close_frame.ensures)
