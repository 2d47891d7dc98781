-- The statement of specs/Worked.antt, by computation.
use mathlib.Core.Path.{refl}
use Rattle.chooser.specs.Turn.{is_waiting, port_picked, slice_at, pick}
use Rattle.chooser.specs.Fair.{picks}
use Rattle.chooser.specs.Worked.{Worked}

pub worked_out : Worked
unfolding picks pick is_waiting port_picked slice_at
worked_out = refl
