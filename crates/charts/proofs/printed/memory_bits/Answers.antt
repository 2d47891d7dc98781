use mathlib.Core.Path.{refl}
use Rattle.charts.proofs.Charts.{charted}
use Rattle.charts.proofs.printed.memory_bits.Goals as goal

pub returns : goal.returns
returns c =
    charted 256 16 _ refl
