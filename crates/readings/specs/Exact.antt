-- What the operations of specs/Double.antt come to, for every number that a datum can be (proved in proofs/Exact.antt).
use Rattle.std.specs.Prelude.{ℕ, suc, ◌<◌, ◌^◌, ◌≡◌, not, T, ℤ, pos, negsuc, nat_abs}
use Rattle.std.specs.Int.Signed.{mag, non_neg}
use Rattle.std.specs.Float.{binary64}
use Rattle.std.specs.Float.Ieee.{round, neg, to_signed}
use Rattle.std.specs.Float.Ieee.Exact.{HasValue}
use Rattle.std.specs.Float.Ieee.Positive.{positive}
use Rattle.readings.specs.Double.{double, from_hundredths, zero}

-- a number of 32 bits, as every typed datum is; in range, none is further from 0 than 999999
abbrev pub Datum : ℤ → Type 0
Datum n = mag n < 2 ^ 31

-- the double made of n is n: finite, of its sign and its size; and cast to 32 bits it is n again
pub record Exact (n : ℤ) : Type 0 where
  pub value : HasValue (double n) (not (non_neg n)) (nat_abs n) 1
  pub back : to_signed 31 (double n) ≡ n

abbrev pub Lossless : Type 0
Lossless = (n : ℤ) → Datum n → Exact n

-- n hundredths are the fraction n / 100 rounded once: the double nearest to it, of two as near the even one
abbrev pub RoundedOnce : Type 0
RoundedOnce = (n : ℤ) → Datum n → from_hundredths n ≡ round binary64 (not (non_neg n)) (nat_abs n) 100

-- zero is plus zero
pub record PlusZero : Type 0 where
  pub hundredths : from_hundredths (pos 0) ≡ zero
  pub count : double (pos 0) ≡ zero

-- and nothing else is a zero, or not finite: hundredths above zero are finite and above zero, and those below it have the
-- double of their opposite with the other sign
pub record Signs : Type 0 where
  pub above : (n : ℕ) → 0 < n → Datum (pos n) → T (positive (from_hundredths (pos n)))
  pub below : (n : ℕ) → Datum (negsuc n) → from_hundredths (negsuc n) ≡ neg (from_hundredths (pos (suc n)))

-- no two of them have the same double
abbrev pub Distinct : Type 0
Distinct = (m n : ℤ) → Datum m → Datum n → from_hundredths m ≡ from_hundredths n → m ≡ n
