use Prim.Native.Nat.{ℕ}
use mathlib.Core.Path.{◌≡◌}
use mathlib.Core.List.{List, [], ◌∷◌, ◌++◌}
use native.Mathlib.Omega.{arith}
use lib.ListN.{set, length-set}
use Rattle.text.specs.Put.{Put, PutAt}
use Rattle.text.specs.Whole.{shortest}
use Rattle.text.specs.declared.put.Cursor.{Cursor}
use Rattle.text.proofs.Laws.{put_then}
use Rattle.frame.specs.Checksum.{lrc_of}
use Rattle.frame.specs.Frame.{opening}
use Rattle.frame.proofs.Writing.{opening_length}
use Rattle.frame.proofs.writer.open_frame.Goals as goal

-- STX, and then the station and SP
opened : (st : ℕ) {xs ys : List ℕ} {r : Cursor} → Put (set xs 0 2) (record { at = 1; sum = 0 }) (shortest st ++ (32 ∷ [])) r ys → PutAt xs 0 (opening st) r.at ys × (r.sum ≡ lrc_of (shortest st ++ (32 ∷ [])))
unfolding opening lrc_of
opened st p = (record { next = omega (arith, p.next); area = p.area }, p.sum)

pub bounds-area-0 : goal.bounds-area-0
bounds-area-0 c =
    omega (arith, opening_length c.args.station)

pub put_shortest-space-requires : goal.put_shortest-space-requires
put_shortest-space-requires c =
    simp length-set (omega (arith, opening_length c.args.station))

pub put_byte-requires : goal.put_byte-requires
put_byte-requires c =
    omega (arith, opening_length c.args.station, rw length-set at c.put_shortest-space.auto.area, c.put_shortest-space.ensures.next)

pub shape_of-area : goal.shape_of-area
shape_of-area c =
    omega (arith, rw length-set at c.put_shortest-space.auto.area, c.put_byte.auto.area)

pub returns : goal.returns
returns c =
    opened c.args.station (put_then c.put_shortest-space.ensures c.put_byte.ensures)
