use Rattle.frame.proofs.Writing.{framed}
use Rattle.gateway.proofs.serve.put_refused.Goals as goal

pub returns : goal.returns
returns c =
    framed c.args.station c.open_frame-at.ensures c.put_refusal-end.ensures c.close_frame.ensures
