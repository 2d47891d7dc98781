-- The invariant: what is asked of the four slots is what is asked of those from i on.
use mathlib.Core.Path.{◌≡◌}
use lib.ListN.{drop}
use Rattle.model.specs.Setup.{repeats}
use Rattle.slots.proofs.setup.is_repeating.Given as goal

abbrev pub invariant-loop-i : goal.invariant-loop-i
invariant-loop-i l = repeats l.want ≡ repeats (drop l.i l.want)
