use Prim.Native.Nat.{ℕ, ◌+◌, ◌-◌, ◌≤◌, ◌<◌}
use mathlib.Core.Path.{◌≡◌, refl, ap, ◌∙◌}
use mathlib.Core.List.{List}
use native.Mathlib.Omega.{arith}
use borrow.Author.Rules.{rules}
use lib.ListN.{length, take, drop, length-drop}
use lib.Seq.{take-add}
use Rattle.text.proofs.Laws.{rest}
use Rattle.receiver.specs.Rule.{slices_from, held_from}
use Rattle.tables.specs.Tables.{Tables}
use Rattle.model.specs.Box.{Box, box}
use Rattle.link.specs.Served.{LineServed}
use Rattle.link.proofs.Laws.{none_served, served_then, area_length}
use Rattle.link.proofs.arrived.serve_arrived.Goals as goal

-- what follows i bytes of s
module _ (s : List ℕ) (i : ℕ) where
  abbrev part : List ℕ
  part = take (length s - i) (drop i s)

  part_served : (n : ℕ) {b : Box} {h xs ys h' zs h'' : List ℕ} {at p q : ℕ} {t t'' : Tables} → LineServed b h (take i s) xs at p ys t h' → LineServed (box b.stations t) h' (take n part) ys p q zs t'' h'' → LineServed b h (take (i + n) s) xs at q zs t'' h''
  part_served n k l = rw (take-add i n s) (served_then k (rw rest at l))

  part_taken : {n : ℕ} → i < length s → (n ≤ length part) × (0 < length part → 0 < n) → (i + n ≤ length s) × (0 < n)
  part_taken h w =
      let l : length part ≡ length s - i = ap length (rest i s) ∙ length-drop i s in
      (omega (arith, w.0), w.1 (omega arith))

pub loop-i-init : goal.loop-i-init
unfolding slices_from held_from
loop-i-init c =
    record {
      bound = omega arith;
      room = omega (arith, c.requires);
      served = none_served refl refl;
      same_tables = search rules;
      same_state = search rules;
    }

pub loop-i-preserved : goal.loop-i-preserved
loop-i-preserved c =
    let w = part_taken c.args.arrived.now c.loop-i.i c.loop-i-test.true c.serve_next-part.ensures.taken_in_bounds in
    let k = c.loop-i.invariant in
    record {
      bound = w.0;
      room = omega (arith, c.serve_next-part.ensures.at_bound, k.room, w.0, w.1, area_length c.serve_next-part.ensures.line_served);
      served = part_served c.args.arrived.now c.loop-i.i _ k.served c.serve_next-part.ensures.line_served;
      same_tables = search rules;
      same_state = search rules;
    }
