-- What a list lends at an index, copied, is its item there.
use Prim.Native.Nat.{ℕ}
use mathlib.Core.Path.{◌≡◌, ◌∙◌}
use mathlib.Core.List.{List}
use Rattle.std.specs.Prelude.{Option, Some, None, slice_get}
use Rattle.std.specs.Borrow.{Bor}
use Rattle.std.specs.Option.{option_copied}
use Rattle.std.specs.Slice.{IsItemAt}
use native.Mathlib.Omega.{arith}
use Rattle.names.specs.Command.{commands}
use Rattle.std.proofs.lemmas.Grind.{common_steps}
use Rattle.std.proofs.lemmas.Option.{gets}
use Rattle.untyped.proofs.read.command_at.Goals as goal

copied_at : {X : Type 0} (xs : List X) (i : ℕ) (r : Option (Bor X)) → IsItemAt xs i r → option_copied r ≡ slice_get xs i
copied_at xs i (Some x) h = grind (arith, common_steps, gets)
copied_at xs i None h = grind (arith, common_steps, gets)

pub returns : goal.returns
returns c =
    c.copied.ensures ∙ copied_at commands c.args.code c.get.result c.get.ensures.lookup
