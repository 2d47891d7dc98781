-- A test passed at every number below a bound, computed at once.
use Prim.Native.Nat.{ℕ, zero, suc, ◌<◌}
use mathlib.Core.Path.{◌≡◌, refl}
use mathlib.Core.Bool.{Bool, true, false, ◌&&◌}
use native.Mathlib.Omega.{arith}

abbrev pub all : ℕ → (ℕ → Bool) → Bool
all zero f = true
all (suc n) f = f 0 && all n (λ i. f (suc i))

both : (s t : Bool) → s && t ≡ true → (s ≡ true) × (t ≡ true)
both true t e = (refl, e)
both false t e = let z : ◌≡◌ {A = ℕ} 0 1 = cc in absurd (omega arith)

pub all_at : (n : ℕ) (f : ℕ → Bool) → all n f ≡ true → (k : ℕ) → k < n → f k ≡ true
all_at zero f e k h = absurd (omega arith)
all_at (suc n) f e zero h = (both (f 0) (all n (λ i. f (suc i))) e).0
all_at (suc n) f e (suc k) h = all_at n (λ i. f (suc i)) (both (f 0) (all n (λ i. f (suc i))) e).1 k (omega arith)
