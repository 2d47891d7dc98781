use native.Mathlib.Omega.{arith}
use Rattle.std.proofs.lemmas.List.{take_more}
use Rattle.text.proofs.Laws.{put_none, put_then}
use Rattle.text.proofs.put.put_bytes.Goals as goal

pub loop-b-init : goal.loop-b-init
loop-b-init c =
    put_none c.args.area.now c.args.to

pub loop-b-preserved : goal.loop-b-preserved
loop-b-preserved c =
    rw (take_more c.args.s.now c.loop-b.b-index 0 (omega arith)) (put_then c.loop-b.invariant c.put_byte-end.ensures)
