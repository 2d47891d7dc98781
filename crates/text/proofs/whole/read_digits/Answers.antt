use Prim.Native.Nat.{ℕ, zero, suc, ◌+◌, ◌*◌, ◌^◌, ◌≤◌, ◌<◌, ◌-◌}
use mathlib.Core.Path.{◌≡◌, sym}
use mathlib.Core.Bool.{true, false}
use mathlib.Core.List.{List, [], ◌∷◌}
use native.Mathlib.Omega.{arith}
use lib.ListN.{length, drop}
use Rattle.text.specs.Whole.{is_digit, digit_count, digit_value}
use Rattle.text.proofs.whole.read_digits.Invariants.{Passed}
use Rattle.text.proofs.whole.read_digits.Goals as goal

-- the digits end at e, and made v
abbrev Ended : List ℕ → ℕ → ℕ → ℕ → Type 0
Ended s from v e = (e ≡ from + digit_count 4 (drop from s)) × (v ≡ digit_value 4 0 (drop from s))

-- a number of fewer than 4 digits, and with a digit more
grown : (v m d : ℕ) → m + 1 ≤ 4 → v < 10 ^ (4 - (m + 1)) → d ≤ 9 → (v < 1000) × (v * 10 + d < 10 ^ (4 - m))
grown v zero d h k l = (omega arith, omega arith)
grown v (suc zero) d h k l = (omega arith, omega arith)
grown v (suc (suc zero)) d h k l = (omega arith, omega arith)
grown v (suc (suc (suc zero))) d h k l = (omega arith, omega arith)
grown v (suc (suc (suc (suc m)))) d h k l = absurd (omega arith)

module _ {s rest bs : List ℕ} {from v e n b : ℕ} (p : Passed s rest from v e n) (m : ℕ) (r : rest ≡ b ∷ bs) (q : m + 1 ≡ n) where
  next : n ≡ suc m
  next = omega arith

  -- another byte
  stop : is_digit b ≡ false → Ended s from v e
  unfolding digit_count digit_value
  stop t = (rw (p.counted, next, r, t) (omega arith), rw (p.valued, next, r, t))

  -- a digit more
  sized : b ≤ 57 → (v < 1000) × (v * 10 + (b - 48) < 10 ^ (4 - m))
  sized d = grown v m (b - 48) (omega (arith, p.most)) (rw q p.small) (omega arith)

  step : is_digit b ≡ true → b ≤ 57 → Passed s bs from (v * 10 + (b - 48)) (e + 1) m
  unfolding digit_count digit_value
  step t d =
      record {
        most = omega (arith, p.most);
        small = (sized d).1;
        inside = omega (arith, rw r at p.inside);
        counted = rw (p.counted, next, r, t) (omega arith);
        valued = rw (p.valued, next, r, t);
      }

-- no byte more, or 4 digits
done : {s rest : List ℕ} {from v e n : ℕ} → Passed s rest from v e n → (0 < n → length rest ≡ 0) → Ended s from v e
unfolding digit_count digit_value
done {n = zero} p h = (rw p.counted (omega arith), sym p.valued)
done {rest = []} {n = suc n} p h = (rw p.counted (omega arith), sym p.valued)
done {rest = b ∷ bs} {n = suc n} p h = absurd (omega (arith, h (omega arith)))

pub returns-then-not-is_ascii_digit-clause-end_value : goal.returns-then-not-is_ascii_digit-clause-end_value
returns-then-not-is_ascii_digit-clause-end_value c =
    stop c.loop-b.invariant _ c.in-Some.ensures.steps.0 c.in-Some.ensures.steps.1 (sym c.if-not-is_ascii_digit.ensures.value)

pub overflow_mul-digits : goal.overflow_mul-digits
overflow_mul-digits c =
    let small = sized c.loop-b.invariant _ c.in-Some.ensures.steps.0 c.in-Some.ensures.steps.1 c.if-not-is_ascii_digit.ensures.cases.1 in
    omega (arith, small.0)

pub overflow_add-digits : goal.overflow_add-digits
overflow_add-digits c =
    let d = c.if-not-is_ascii_digit.ensures.cases.1 in
    let small = sized c.loop-b.invariant _ c.in-Some.ensures.steps.0 c.in-Some.ensures.steps.1 d in
    omega (arith, small.0, d)

pub loop-b-preserved : goal.loop-b-preserved
loop-b-preserved c =
    let d = c.if-not-is_ascii_digit.ensures in
    step c.loop-b.invariant _ c.in-Some.ensures.steps.0 c.in-Some.ensures.steps.1 (sym d.value) d.cases.1

pub returns-clause-end_value : goal.returns-clause-end_value
returns-clause-end_value c = done c.loop-b.invariant (λ h. (c.in-None.ensures.steps h).0)
