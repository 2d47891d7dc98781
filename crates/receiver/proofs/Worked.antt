-- The statement of specs/Worked.antt, by computation.
use mathlib.Core.Path.{refl}
use Rattle.receiver.specs.Rule.{ended, effect, slices_from}
use Rattle.receiver.specs.Worked.{examples, Worked}

pub worked_out : Worked
unfolding examples ended effect slices_from
worked_out = refl
