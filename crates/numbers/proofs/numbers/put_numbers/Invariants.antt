-- The invariant: what is left of the text, written at `end` of the area as it is now and taken into its sum, gives what
-- all of it gives.
use Prim.Native.Nat.{ℕ}
use mathlib.Core.List.{List, map}
use lib.IntN.{ℤ}
use lib.ListN.{drop}
use Rattle.text.proofs.Parts.{Left}
use Rattle.frame.specs.Fields.{following}
use Rattle.commands.specs.declared.table.Kind.{Kind}
use Rattle.numbers.specs.Numbers.{field_text, numbers_text}
use Rattle.numbers.proofs.numbers.put_numbers.Given as goal

-- each of these values after one SP
abbrev pub parted : Kind → List ℤ → List ℕ
parted k vs = following (map (field_text k) vs)

abbrev pub invariant-loop-v : goal.invariant-loop-v
invariant-loop-v l = Left l.fn.area l.fn.to (numbers_text l.kind l.fn.row) l.area l.end (parted l.kind (drop l.v-index l.v-items))
