-- What being in range says of values.
use Prim.Native.Nat.{ℕ, zero, suc, ◌≤◌, ◌<◌}
use mathlib.Core.Path.{◌≡◌, refl}
use mathlib.Core.Bool.{Bool, true, false, not, ◌&&◌}
use mathlib.Core.List.{List, ◌∷◌}
use native.Mathlib.Omega.{arith}
use borrow.Author.Tests.{ltb-false, not-true}
use lib.IntN.{ℤ, pos, negsuc, nat_abs}
use lib.ListN.{take, replicate}
use lib.Signed.{lt_z}
use Rattle.commands.specs.declared.table.Kind.{Kind}
use Rattle.commands.specs.declared.table.Kind.TheVariants as kind
use Rattle.commands.specs.declared.request.Row.{Row}
use Rattle.commands.specs.Request.{one}
use Rattle.numbers.specs.Ranges.{count_of, limits_of, in_range, each_in_range, all_in_range}

pub and_left : (s t : Bool) → s && t ≡ true → s ≡ true
and_left true t e = refl
and_left false true e = e
and_left false false e = e

pub and_right : (s t : Bool) → s && t ≡ true → t ≡ true
and_right true t e = e
and_right false true e = refl
and_right false false e = e

-- ---- a value in its kind's range

module _ (k : Kind) (v : ℤ) (h : in_range k v ≡ true) where
  not_below : lt_z v (limits_of k).low ≡ false
  unfolding in_range
  not_below = not-true _ (and_left _ _ h)

  not_above : lt_z (limits_of k).high v ≡ false
  unfolding in_range
  not_above = not-true _ (and_right (not (lt_z v (limits_of k).low)) _ h)

size_within : (m : ℕ) (low v : ℤ) → nat_abs low ≤ m → lt_z v low ≡ false → lt_z (pos m) v ≡ false → nat_abs v ≤ m
size_within m low (pos n) l a b = ltb-false m n b
size_within m (pos j) (negsuc n) l a b = let e : ◌≡◌ {A = ℕ} 0 1 = cc in absurd (omega arith)
size_within m (negsuc j) (negsuc n) l a b = omega (arith, ltb-false j n a)

-- it is no larger than the range's greatest
pub in_size : (k : Kind) (v : ℤ) → in_range k v ≡ true → nat_abs v ≤ nat_abs (limits_of k).high
in_size kind.Timer v h = size_within 999 (pos 0) v (omega arith) (not_below kind.Timer v h) (not_above kind.Timer v h)
in_size kind.Register v h = size_within 9999 (pos 0) v (omega arith) (not_below kind.Register v h) (not_above kind.Register v h)
in_size kind.Row v h = size_within 999999 (negsuc 999998) v (omega arith) (not_below kind.Row v h) (not_above kind.Row v h)
in_size kind.Signal v h = size_within 1 (pos 0) v (omega arith) (not_below kind.Signal v h) (not_above kind.Signal v h)
in_size kind.Port v h = size_within 255 (pos 0) v (omega arith) (not_below kind.Port v h) (not_above kind.Port v h)

-- in a range that starts at 0 it is a natural number
pub in_nat : (k : Kind) (v : ℤ) → (limits_of k).low ≡ pos 0 → in_range k v ≡ true → v ≡ pos (nat_abs v)
in_nat k v e h = go v (rw e at (not_below k v h))
  where
    go : (z : ℤ) → lt_z z (pos 0) ≡ false → z ≡ pos (nat_abs z)
    go (pos n) a = refl
    go (negsuc n) a = let e : ◌≡◌ {A = ℕ} 0 1 = cc in absurd (omega arith)

-- in such a range it has at most 4 digits
pub in_digits : (k : Kind) (v : ℤ) → (limits_of k).low ≡ pos 0 → in_range k v ≡ true → nat_abs v < 10000
in_digits kind.Timer v e h = omega (arith, in_size kind.Timer v h)
in_digits kind.Register v e h = omega (arith, in_size kind.Register v h)
in_digits kind.Row v e h = let z : ◌≡◌ {A = ℕ} 0 1 = cc in absurd (omega arith)
in_digits kind.Signal v e h = omega (arith, in_size kind.Signal v h)
in_digits kind.Port v e h = omega (arith, in_size kind.Port v h)

pub in_small : (k : Kind) (v : ℤ) → in_range k v ≡ true → nat_abs v < 1000000
in_small k v h = omega (arith, in_size k v h, top k)
  where
    top : (k : Kind) → nat_abs (limits_of k).high < 1000000
    top kind.Timer = omega arith
    top kind.Register = omega arith
    top kind.Row = omega arith
    top kind.Signal = omega arith
    top kind.Port = omega arith

-- ---- the values of data

-- there is a first
pub some_value : (k : Kind) → (n : ℕ) × (count_of k ≡ suc n)
some_value kind.Timer = (0, refl)
some_value kind.Register = (0, refl)
some_value kind.Row = (3, refl)
some_value kind.Signal = (0, refl)
some_value kind.Port = (0, refl)

-- and no more than a row has
pub few_values : (k : Kind) → count_of k ≤ 4
few_values kind.Timer = omega arith
few_values kind.Register = omega arith
few_values kind.Row = omega arith
few_values kind.Signal = omega arith
few_values kind.Port = omega arith

module _ (k : Kind) (v : ℤ) (vs : List ℤ) (h : each_in_range k (v ∷ vs) ≡ true) where
  pub head_in : in_range k v ≡ true
  unfolding each_in_range
  head_in = and_left _ _ h

  pub tail_in : each_in_range k vs ≡ true
  unfolding each_in_range
  tail_in = and_right (in_range k v) _ h

pub all_x : (k : Kind) (r : Row) → all_in_range k r ≡ true → in_range k r.x ≡ true
unfolding all_in_range
all_x k r h = head_in k r.x _ (rw (some_value k).1 at h)

pub zero_in : (k : Kind) → in_range k (pos 0) ≡ true
unfolding in_range
zero_in kind.Timer = refl
zero_in kind.Register = refl
zero_in kind.Row = refl
zero_in kind.Signal = refl
zero_in kind.Port = refl

-- zeros in range, as many as there are
zeros_in : (k : Kind) (m n : ℕ) → each_in_range k (take m (replicate n (pos 0))) ≡ true
unfolding each_in_range
zeros_in k zero n = refl
zeros_in k (suc m) zero = refl
zeros_in k (suc m) (suc n) = rw (zero_in k) (zeros_in k m n)

-- a single value
pub one_in : (k : Kind) (v : ℤ) → in_range k v ≡ true → all_in_range k (one v) ≡ true
unfolding all_in_range each_in_range
one_in k v e = rw ((some_value k).1, e) (zeros_in k (some_value k).0 3)
