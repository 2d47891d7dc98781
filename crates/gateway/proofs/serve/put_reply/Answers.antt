use Rattle.frame.proofs.Writing.{framed}
use Rattle.gateway.proofs.serve.put_reply.Goals as goal

pub returns : goal.returns
returns c =
    framed c.args.station c.open_frame-at.ensures c.put_performed-end.ensures c.close_frame.ensures
