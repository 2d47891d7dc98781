-- The statements of specs/Exact.antt, by the laws of the toolchain's library on IEEE 754.
use Prim.Native.Nat.{ℕ, zero, suc, ◌+◌, ◌-◌, ◌*◌, ◌/◌, ◌^◌, ◌≤◌, ◌<◌}
use mathlib.Core.Path.{◌≡◌, refl, sym, ap, ◌∙◌, subst}
use mathlib.Core.Bool.{Bool, true, false, not, cond, beq, true≢false}
use mathlib.Core.Logic.{◌⊎◌, inl, inr}
use native.Mathlib.Nat.{mul_comm, mul_assoc, mul-pos, lt_of_lt_of_le, eq-or-lt_of_le, zero-lt-suc}
use native.Mathlib.Omega.{arith}
use lib.IntN.{ℤ, pos, negsuc, nat_abs}
use lib.Dec.{T, ltb, lt→ltb, le→leb, lit≤}
use borrow.Author.Tests.{ltb-true, ltb-false}
use lib.Pow.{pow-add, pow_mono, shl_lt}
use lib.Signed.{non_neg}
use lib.Ieee.{Float, nan, inf, fin, Format, binary64, prec, low, emax, up, down, size, units, odd, round, neg, le, div, of_int, of_bits, of_fields, span, climb, in_float}
use lib.Ieee.Fits.{down_pos, round_is}
use lib.Ieee.Exact.{HasValue, round_exact}
use lib.Ieee.Back.{round_whole, positive_back, negative_back}
use lib.Ieee.Nearest.{closest}
use lib.Ieee.Scale.{round_same}
use lib.Ieee.Order.{round_mono}
use lib.Ieee.Positive.{positive, between, positive_of_value, values_of_le, le_trans_positive}
use lib.Count.{count_trailing_zeros}
use Rattle.readings.specs.Double.{double, hundred, from_hundredths}
use Rattle.readings.specs.Exact.{Datum, Lossless, RoundedOnce, PlusZero, Signs, Distinct}

-- ---- whole numbers

small : (n : ℕ) → n ≤ 2 ^ 31 → n ≤ 2 ^ 53
small n h = omega arith

whole_value : (n : ℕ) → n ≤ 2 ^ 31 → HasValue (double (pos n)) false n 1
unfolding of_int
whole_value n h = round_whole binary64 false n (small n h)

pub lossless : Lossless
unfolding of_int in_float
lossless (pos n) h = record {
  value = whole_value n (omega arith);
  back = (positive_back binary64 31 n (le→leb n (2 ^ 53) (small n (omega arith))) h).1;
}
lossless (negsuc n) h = record {
  value = round_whole binary64 true (suc n) (small (suc n) h);
  back = (negative_back binary64 31 n (lt→ltb n (2 ^ 53) (small (suc n) h)) h).1;
}

-- ---- hundredths

hundred_is : hundred ≡ fin false 25 (pos 2)
unfolding of_bits of_fields odd count_trailing_zeros
hundred_is = refl

pub plus_zero : PlusZero
unfolding div of_int of_bits of_fields odd count_trailing_zeros round size span climb units
plus_zero = record { hundredths = refl; count = refl }

unlike_false : (s : Bool) → not (beq s false) ≡ s
unlike_false true = refl
unlike_false false = refl

-- a number over 25 * 2 ^ 2, whatever its fraction is written over
quotient : (x : Float) (s : Bool) (n : ℕ) → HasValue x s n 1 → div binary64 x hundred ≡ round binary64 s n 100
unfolding div
quotient nan s n v = absurd v
quotient (inf t) s n v = absurd v
quotient (fin t m e) s n v =
    rw (hundred_is, unlike_false t, v.0)
    (round_same binary64 s (m * up e * 1) (25 * 4 * down e) n 100 (mul-pos (zero-lt-suc 99) (down_pos e)) (zero-lt-suc 99) (rw v.1 (mul_assoc n (down e) 100 ∙ ap (λ x. n * x) (mul_comm (down e) 100))))

pub rounded_once : RoundedOnce
rounded_once n h = quotient (double n) (not (non_neg n)) (nat_abs n) (lossless n h).value

-- ---- signs

odd_neg : (d q k l : ℕ) → odd d true q k l ≡ neg (odd d false q k l)
unfolding odd neg
odd_neg d zero k l = refl
odd_neg d (suc q) k l = refl

picked_neg : (b : Bool) (x y : Float) (h : x ≡ neg y) → cond b x (inf true) ≡ neg (cond b y (inf false))
unfolding neg
picked_neg true x y h = h
picked_neg false x y h = refl

units_neg : (f : Format) (q k : ℕ) → units f true q k ≡ neg (units f false q k)
unfolding units
units_neg f q k =
    picked_neg (ltb (q * 2 ^ k) (2 ^ (low f + suc (emax f)))) (odd (suc (prec f)) true q k (low f)) (odd (suc (prec f)) false q k (low f)) (odd_neg (suc (prec f)) q k (low f))

round_neg : (f : Format) (a c : ℕ) → round f true a c ≡ neg (round f false a c)
round_neg f a c =
    let n = a * 2 ^ low f in
    let k = size (n / c) - prec f in
    round_is f true a c ∙ units_neg f (closest n (c * 2 ^ k)) k ∙ ap neg (sym (round_is f false a c))

least : T (positive (round binary64 false 1 100)) × T (positive (round binary64 false (2 ^ 31) 1))
unfolding round size span climb units odd count_trailing_zeros
least = (tt, tt)

rounded_positive : (n : ℕ) → 0 < n → n ≤ 2 ^ 31 → T (positive (round binary64 false n 100))
rounded_positive n p h =
    between (round binary64 false 1 100) (round binary64 false n 100) (round binary64 false (2 ^ 31) 1) least.0 least.1
    (round_mono binary64 1 100 n 100 (zero-lt-suc 99) (zero-lt-suc 99) (omega arith))
    (round_mono binary64 n 100 (2 ^ 31) 1 (zero-lt-suc 99) (zero-lt-suc 0) (omega arith))

pub signs : Signs
signs = record {
  above = λ n p h. subst (λ x. T (positive x)) (sym (rounded_once (pos n) h)) (rounded_positive n p (omega arith));
  below = λ n h. rounded_once (negsuc n) h ∙ round_neg binary64 (suc n) 100 ∙ ap neg (sym (opposite n h));
}
  where
    opposite : (n : ℕ) → n < 2 ^ 31 → from_hundredths (pos (suc n)) ≡ round binary64 false (suc n) 100
    opposite n h = quotient (double (pos (suc n))) false (suc n) (whole_value (suc n) h)

-- ---- no two hundredths have the same double: between two of them stand two doubles that are multiples of 2 ^ -10

-- k / 1024 is a double
dyadic : (k : ℕ) → k < 2 ^ 53 → HasValue (round binary64 false k 1024) false k 1024
dyadic k h =
    round_exact binary64 false k 1024 k 1064 (zero-lt-suc 1023) h
    (lt_of_lt_of_le (shl_lt 53 1064 h) (pow_mono {i = 53 + 1064} {j = 1074 + 1024} (lit≤ tt)))
    (ap (λ x. k * x) (pow-add 2 1064 10) ∙ sym (mul_assoc k (2 ^ 1064) 1024))

apart : (m n : ℕ) → 0 < m → m < n → n ≤ 2 ^ 31 → round binary64 false m 100 ≡ round binary64 false n 100 → ⊥
apart m n p l h e =
    let k = m * 1024 / 100 + 1 in
    let low-one = round binary64 false k 1024 in
    let high_one = round binary64 false (k + 1) 1024 in
    let x = round binary64 false m 100 in
    let vk = dyadic k (omega arith) in
    let vh = dyadic (k + 1) (omega arith) in
    let pk = positive_of_value low-one k 1024 vk (omega arith) in
    let ph = positive_of_value high_one (k + 1) 1024 vh (omega arith) in
    let px = rounded_positive m p (omega arith) in
    let below-k : T (le x low-one) = round_mono binary64 m 100 k 1024 (zero-lt-suc 99) (zero-lt-suc 1023) (omega arith) in
    let above-k : T (le high_one x) = subst (λ y. T (le high_one y)) (sym e) (round_mono binary64 (k + 1) 1024 n 100 (zero-lt-suc 1023) (zero-lt-suc 99) (omega arith)) in
    let c : (k + 1) * 1024 ≤ k * 1024 = values_of_le high_one low-one (k + 1) 1024 k 1024 ph pk vh vk (le_trans_positive high_one x low-one ph px pk above-k below-k) in
    absurd (omega arith)

-- minus, or not a number
is_minus : Float → Bool
is_minus nan = true
is_minus (inf s) = s
is_minus (fin s m e) = s

zero_rounded : (T (positive (round binary64 false 0 100)) → ⊥) × (is_minus (round binary64 false 0 100) ≡ false)
unfolding is_minus round size span climb units odd count_trailing_zeros
zero_rounded = (λ t. t, refl)

positive_plus : (x : Float) → T (positive x) → (is_minus x ≡ false) × (is_minus (neg x) ≡ true)
unfolding is_minus neg
positive_plus nan p = absurd p
positive_plus (inf s) p = absurd p
positive_plus (fin true m e) p = absurd p
positive_plus (fin false m e) p = (refl, refl)

lower : (m n : ℕ) → m < n → n ≤ 2 ^ 31 → round binary64 false m 100 ≡ round binary64 false n 100 → ⊥
lower zero n l h e = zero_rounded.0 (subst (λ x. T (positive x)) (sym e) (rounded_positive n l h))
lower (suc m) n l h e = apart (suc m) n (zero-lt-suc m) l h e

same_size : (m n : ℕ) → m ≤ 2 ^ 31 → n ≤ 2 ^ 31 → round binary64 false m 100 ≡ round binary64 false n 100 → m ≡ n
same_size m n hm hn e = go (ltb m n) refl
  where
    above : (n ≡ m) ⊎ (n < m) → m ≡ n
    above (inl s) = sym s
    above (inr l) = absurd (lower n m l hm (sym e))

    go : (t : Bool) → ltb m n ≡ t → m ≡ n
    go true t = absurd (lower m n (ltb-true m n t) hn e)
    go false t = above (eq-or-lt_of_le (ltb-false m n t))

plus_rounded : (m : ℕ) → m ≤ 2 ^ 31 → is_minus (round binary64 false m 100) ≡ false
plus_rounded zero h = zero_rounded.1
plus_rounded (suc m) h = (positive_plus (round binary64 false (suc m) 100) (rounded_positive (suc m) (zero-lt-suc m) h)).0

minus_rounded : (m : ℕ) → m < 2 ^ 31 → is_minus (round binary64 true (suc m) 100) ≡ true
minus_rounded m h =
    rw (round_neg binary64 (suc m) 100) (positive_plus (round binary64 false (suc m) 100) (rounded_positive (suc m) (zero-lt-suc m) h)).1

neg_back : (x : Float) → neg (neg x) ≡ x
unfolding neg
neg_back nan = refl
neg_back (inf true) = refl
neg_back (inf false) = refl
neg_back (fin true m e) = refl
neg_back (fin false m e) = refl

other_signs : (m n : ℕ) → m ≤ 2 ^ 31 → n < 2 ^ 31 → round binary64 false m 100 ≡ round binary64 true (suc n) 100 → ⊥
other_signs m n hm hn e = true≢false (sym (minus_rounded n hn) ∙ ap is_minus (sym e) ∙ plus_rounded m hm)

same_rounded : (m n : ℤ) → Datum m → Datum n → round binary64 (not (non_neg m)) (nat_abs m) 100 ≡ round binary64 (not (non_neg n)) (nat_abs n) 100 → m ≡ n
same_rounded (pos m) (pos n) hm hn e = ap pos (same_size m n (omega arith) (omega arith) e)
same_rounded (pos m) (negsuc n) hm hn e = absurd (other_signs m n (omega arith) hn e)
same_rounded (negsuc m) (pos n) hm hn e = absurd (other_signs n m (omega arith) hm (sym e))
same_rounded (negsuc m) (negsuc n) hm hn e =
    let x = round binary64 false (suc m) 100 in
    let y = round binary64 false (suc n) 100 in
    let s : suc m ≡ suc n = same_size (suc m) (suc n) hm hn (sym (neg_back x) ∙ ap neg (sym (round_neg binary64 (suc m) 100) ∙ e ∙ round_neg binary64 (suc n) 100) ∙ neg_back y) in
    ap negsuc (omega arith)

pub distinct : Distinct
distinct m n hm hn e = same_rounded m n hm hn (sym (rounded_once m hm) ∙ e ∙ rounded_once n hn)
