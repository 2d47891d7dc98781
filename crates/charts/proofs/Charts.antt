-- One test of every entry of a chart, and one law that reads it: the test is of the rule, and the rule gives the place.
use Prim.Native.Nat.{ℕ, ◌+◌, ◌-◌, ◌*◌, ◌/◌, ◌%◌, ◌<◌}
use mathlib.Core.Path.{◌≡◌}
use mathlib.Core.Bool.{Bool, true}
use mathlib.Core.List.{List}
use native.Mathlib.Omega.{arith}
use borrow.Author.Tests.{eqb-true}
use lib.Dec.{eqb}
use Rattle.ports.specs.Place.{place_of}
use Rattle.ports.proofs.Laws.{all, all_at}
use Rattle.charts.specs.Chart.{entry, Charted}

-- the signal at bit i % 8 of port i / 8 is first + i
abbrev passes : ℕ → List (List ℕ) → ℕ → Bool
passes first chart i = eqb (entry chart (i / 8) (i % 8)) (first + i)

-- the formula gives back the port and the bit that the rule makes a signal of
placed : (first p b : ℕ) → b < 8 → place_of first (first + p * 8 + b) ≡ record { port = p; bit = b }
placed first p b h =
    let port : (first + p * 8 + b - first) / 8 ≡ p = omega arith in
    let bit : (first + p * 8 + b - first) % 8 ≡ b = omega arith in
    rw (port, bit)

pub charted : (first ports : ℕ) (chart : List (List ℕ)) → all (ports * 8) (passes first chart) ≡ true → Charted first ports chart
charted first ports chart e =
    record { rule = rule; place = λ p b hp hb. rw (rule p b hp hb) (placed first p b hb) }
  where
    rule : (p b : ℕ) → p < ports → b < 8 → entry chart p b ≡ first + p * 8 + b
    rule p b hp hb =
        let i = p * 8 + b in
        let port : i / 8 ≡ p = omega arith in
        let bit : i % 8 ≡ b = omega arith in
        let same : eqb (entry chart (i / 8) (i % 8)) (first + i) ≡ true = all_at (ports * 8) (passes first chart) e i (omega arith) in
        omega (arith, rw (port, bit) at (eqb-true (entry chart (i / 8) (i % 8)) (first + i) same))
