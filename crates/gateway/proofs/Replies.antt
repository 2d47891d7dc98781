-- What serving reports fits in the reply area.
use Prim.Native.Nat.{◌≤◌}
use mathlib.Core.List.{List}
use Prim.Native.Nat.{ℕ}
use native.Mathlib.Omega.{arith}
use lib.ListN.{length}
use Rattle.harl.specs.declared.message.Sent.{Sent}
use Rattle.tables.specs.Tables.{Tables}
use Rattle.model.specs.Box.{Box}
use Rattle.gateway.specs.Entries.{Served}

pub served_fits : {b : Box} {slice before later : List ℕ} {sent : Sent} {t : Tables} → Served b slice before sent t later → sent.length ≤ length before
served_fits r = omega (arith, r.answer_is.length_is, r.answer_is.fits)
