-- The body starts after SP, which follows one digit or two; an accepted frame has position 0.
use Rattle.std.proofs.Common.{sym, ap}
use Rattle.frame.specs.Frame.{Reading, frame_position}
use Rattle.frame.proofs.Station.{one_is, two_is}
use Rattle.frame.proofs.reader.read_inner.Goals as goal
use Rattle.frame.proofs.reader.read_inner.Goals.{then-station-lt10, else-station-lt10}

pub returns-clause-read : goal.returns-clause-read
returns-clause-read c =
    let t = c.args.inner.now in
    let read = c.in-Some.ensures in
    elim c.if-station-lt10.branch [
      | then-station-lt10 w ↦ rw w.body-is (sym (one_is t c.requires.1 _ read.value read.positive w.if-station-lt10.true))
      | else-station-lt10 w ↦ rw w.body-is (sym (two_is t c.requires.1 _ read.value w.if-station-lt10.false))
    ]

pub returns-clause-position_value : goal.returns-clause-position_value
unfolding frame_position
returns-clause-position_value c s = ap (λ (o : Reading). frame_position s o.number) (returns-clause-read c)
