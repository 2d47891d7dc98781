-- A signed number that fits is what its bits are read as.
use Prim.Native.Nat.{◌<◌}
use mathlib.Core.Path.{◌≡◌}
use lib.IntN.{ℤ}
use lib.Signed.{mag}
use mir.Syntax.{w32}
use mir.Val.{to_z, of_z}
use mir.Facts.{to_z-of_z}

pub i32_back : (z : ℤ) → mag z < 2147483648 → to_z w32 (of_z w32 z) ≡ z
i32_back z h = to_z-of_z {w = w32} (record { sfits = h })
