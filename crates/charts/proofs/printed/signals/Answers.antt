use mathlib.Core.Path.{refl}
use Rattle.charts.proofs.Charts.{charted}
use Rattle.charts.proofs.printed.signals.Goals as goal

pub returns : goal.returns
returns c =
    charted 0 32 _ refl
