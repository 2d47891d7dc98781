-- What checks 11 and 12 say that passed.
use Prim.Native.Nat.{ℕ, ◌≤◌}
use mathlib.Core.Path.{◌≡◌, refl}
use mathlib.Core.Bool.{Bool, true, false, cond, ◌||◌}
use native.Mathlib.Omega.{arith}
use borrow.Author.Tests.{le-ltb, ltb-false}
use lib.Dec.{ltb}
use Rattle.commands.specs.declared.table.Rule.{Rule}
use Rattle.commands.specs.declared.request.Payload.{Payload}
use Rattle.data.specs.Ranges.{data_fit, judge}

pub record Passed (rule : Rule) (n : ℕ) (p : Payload) : Type 0 where
  pub low : rule.first ≤ n
  pub high : n ≤ rule.last
  pub payload : data_fit rule p ≡ true

pub passed : (rule : Rule) (n : ℕ) (p : Payload) → judge rule n p ≡ 0 → Passed rule n p
unfolding judge
passed rule n p h = go (ltb n rule.first) (ltb rule.last n) (data_fit rule p) refl refl refl h
  where
    go : (a b t : Bool) → ltb n rule.first ≡ a → ltb rule.last n ≡ b → data_fit rule p ≡ t → ◌≡◌ {A = ℕ} (cond (a || b) 11 (cond t 0 12)) 0 → Passed rule n p
    go true b t p q e z = absurd (omega arith)
    go false true t p q e z = absurd (omega arith)
    go false false true p q e z = record { low = ltb-false n rule.first p; high = ltb-false rule.last n q; payload = e }
    go false false false p q e z = absurd (omega arith)

-- a number and data that pass them
pub judged : (rule : Rule) (n : ℕ) (p : Payload) → rule.first ≤ n → n ≤ rule.last → data_fit rule p ≡ true → judge rule n p ≡ 0
unfolding judge
judged rule n p l h e = rw (le-ltb n rule.first l, le-ltb rule.last n h, e)
