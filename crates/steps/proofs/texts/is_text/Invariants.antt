-- The invariant: what is left of the number, with at most as many characters as are left to count, is judged as all of it is
-- with 8.
use Prim.Native.Nat.{◌-◌}
use mathlib.Core.Path.{◌≡◌}
use Rattle.steps.specs.Text.{only_chars}
use Rattle.steps.proofs.texts.is_text.Given as goal

abbrev pub invariant-loop : goal.invariant-loop
invariant-loop l = only_chars 8 l.initial.rest ≡ only_chars (8 - l.counter) l.rest
