-- Hundredths: what is read is small, and each of -999999..999999 reads back as itself.
use Prim.Native.Nat.{ℕ, suc, ◌+◌, ◌-◌, ◌*◌, ◌^◌, ◌≤◌, ◌<◌, ◌/◌, ◌%◌}
use mathlib.Core.Path.{◌≡◌, refl, ap, subst, ◌∙◌}
use mathlib.Core.Bool.{Bool, true, false, cond, ◌&&◌}
use mathlib.Core.List.{List, [], ◌∷◌, ◌++◌}
use Rattle.std.specs.Prelude.{Option, None, Some, option_map}
use native.Mathlib.Omega.{arith}
use native.Mathlib.Nat.{pow-succ', pow-le-pow_right, mul-le-mul_right, mul_assoc}
use borrow.Author.Tests.{ne_eqb, leb-true, ltb-true, ltb-false, eqb-true}
use lib.Dec.{ltb, leb, eqb}
use lib.IntN.{ℤ, pos, negsuc, nat_abs}
use lib.Signed.{lt_z}
use lib.ListN.{length, take, drop, get_or, length-append}
use lib.Seq.{take-append_seam, drop-append-add}
use Rattle.text.specs.Scan.{before}
use Rattle.text.specs.Whole.{is_digit, digits_onto, read_whole, digit, shortest}
use Rattle.text.specs.Hundredths.{decimals, magnitude, joined, times, signed, Small, read_hundredths, magnitude_text, hundredths_text}
use Rattle.text.proofs.Digits.{read_shortest, read_two, digit_length, shortest_short, shortest_some, shortest_skips, two_skips}
use Rattle.text.proofs.Laws.{Skips, skips_cons, skips_append, skips_stop, not_first}

-- ---- bounds

-- a value that was read is below k
abbrev pub Below : ℕ → Option ℕ → Type 0
Below k (Some v) = v < k
Below k None = Unit

below_more : (k m : ℕ) (w : Option ℕ) → k ≤ m → Below k w → Below m w
below_more k m (Some v) h b = omega arith
below_more k m None h b = tt

digit_high : (b : ℕ) → is_digit b ≡ true → b ≤ 57
digit_high b e = leb-true b 57 (both (leb 48 b) (leb b 57) e)
  where
    both : (s t : Bool) → s && t ≡ true → t ≡ true
    both true t e = e
    both false true e = refl
    both false false e = e

digits_below : (bs : List ℕ) (n : ℕ) → Below ((n + 1) * 10 ^ length bs) (digits_onto n bs)
unfolding digits_onto
digits_below [] n = omega arith
digits_below (b ∷ bs) n = go (is_digit b) refl (digits_below bs (n * 10 + (b - 48)))
  where
    more : b ≤ 57 → (n * 10 + (b - 48) + 1) * 10 ^ length bs ≤ (n + 1) * 10 ^ suc (length bs)
    more h = rw (pow-succ' 10 (length bs), ← mul_assoc (n + 1) 10 (10 ^ length bs)) (mul-le-mul_right (10 ^ length bs) (omega arith))

    go : (t : Bool) → is_digit b ≡ t → Below ((n * 10 + (b - 48) + 1) * 10 ^ length bs) (digits_onto (n * 10 + (b - 48)) bs) → Below ((n + 1) * 10 ^ suc (length bs)) (cond t (digits_onto (n * 10 + (b - 48)) bs) None)
    go true e h = below_more _ _ (digits_onto (n * 10 + (b - 48)) bs) (more (digit_high b e)) h
    go false e h = tt

-- k digits are below 10 ^ k
pub whole_below : (s : List ℕ) → Below (10 ^ length s) (read_whole s)
unfolding read_whole
whole_below s = go (leb 1 (length s) && leb (length s) 4)
  where
    go : (t : Bool) → Below (10 ^ length s) (cond t (digits_onto 0 s) None)
    go true = below_more _ _ (digits_onto 0 s) (omega arith) (digits_below s 0)
    go false = tt

whole_small : (s : List ℕ) → Below 10000 (read_whole s)
unfolding read_whole
whole_small s = go (leb 1 (length s)) (leb (length s) 4) refl
  where
    go : (p q : Bool) → leb (length s) 4 ≡ q → Below 10000 (cond (p && q) (digits_onto 0 s) None)
    go true true e =
        let h : 10 ^ length s ≤ 10 ^ 4 = pow-le-pow_right (omega arith) (leb-true (length s) 4 e) in
        below_more _ _ (digits_onto 0 s) (omega arith) (digits_below s 0)
    go true false e = tt
    go false q e = tt

tens_below : (w : Option ℕ) → Below 10 w → Below 100 (times 10 w)
tens_below (Some v) h = omega arith
tens_below None h = tt

ones_below : (w : Option ℕ) → Below 100 w → Below 100 (times 1 w)
ones_below (Some v) h = omega arith
ones_below None h = tt

decimals_below : (ds : List ℕ) → Below 100 (decimals ds)
unfolding decimals
decimals_below ds = go (ltb 2 (length ds)) (eqb (length ds) 1) refl refl
  where
    go : (p q : Bool) → ltb 2 (length ds) ≡ p → eqb (length ds) 1 ≡ q → Below 100 (cond p None (times (cond q 10 1) (read_whole ds)))
    go true q e f = tt
    go false true e f = tens_below (read_whole ds) (subst (λ (n : ℕ). Below (10 ^ n) (read_whole ds)) (eqb-true (length ds) 1 f) (whole_below ds))
    go false false e f =
        let h : 10 ^ length ds ≤ 10 ^ 2 = pow-le-pow_right (omega arith) (ltb-false 2 (length ds) e) in
        ones_below (read_whole ds) (below_more _ _ (read_whole ds) (omega arith) (whole_below ds))

joined_small : (w d : Option ℕ) → Below 10000 w → Below 100 d → Small (joined w d)
joined_small (Some w) (Some d) a b = omega arith
joined_small (Some w) None a b = tt
joined_small None d a b = tt

pub magnitude_small : (s : List ℕ) → Small (magnitude s)
unfolding magnitude
magnitude_small s = joined_small (read_whole (take (before 46 s) s)) _ (whole_small (take (before 46 s) s)) (go (eqb (before 46 s) (length s)))
  where
    go : (t : Bool) → Below 100 (cond t (Some 0) (decimals (drop (before 46 s + 1) s)))
    go true = omega arith
    go false = decimals_below (drop (before 46 s + 1) s)

-- ---- lengths

pub magnitude_length : (m : ℕ) → length (magnitude_text m) ≡ length (shortest (m / 100 % 10000)) + 3
unfolding magnitude_text
magnitude_length m = simp (length-append, digit_length) (omega arith)

pub text_neg : (z : ℤ) → lt_z z (pos 0) ≡ true → hundredths_text z ≡ 45 ∷ magnitude_text (nat_abs z)
unfolding hundredths_text
text_neg (pos n) t = absurd (omega (arith, ltb-true n 0 t))
text_neg (negsuc n) t = refl

pub text_pos : (z : ℤ) → lt_z z (pos 0) ≡ false → hundredths_text z ≡ magnitude_text (nat_abs z)
unfolding hundredths_text
text_pos (pos n) t = refl
text_pos (negsuc n) t = let e : ◌≡◌ {A = ℕ} 0 1 = cc in absurd (omega arith)

pub text_short : (z : ℤ) → length (hundredths_text z) ≤ 8
unfolding hundredths_text
text_short (pos m) = omega (arith, magnitude_length m, shortest_short (m / 100 % 10000))
text_short (negsuc m) = omega (arith, magnitude_length (suc m), shortest_short (suc m / 100 % 10000))

pub text_some : (z : ℤ) → 1 ≤ length (hundredths_text z)
unfolding hundredths_text
text_some (pos m) = omega (arith, magnitude_length m)
text_some (negsuc m) = omega arith

-- ---- a search for what is no digit, no "." and no "-" passes over the text

module _ (test : ℕ → Bool) (none : (d : ℕ) → d < 10 → test (d + 48) ≡ false) (point : test 46 ≡ false) (minus : test 45 ≡ false) where
  magnitude_skips : (m : ℕ) → Skips test (magnitude_text m)
  unfolding magnitude_text
  magnitude_skips m =
      skips_append test (shortest (m / 100 % 10000)) _ (shortest_skips test none (m / 100 % 10000))
      (skips_cons test 46 (digit 10 (m % 100) ++ digit 1 (m % 100)) point (two_skips test none (m % 100)))

  pub hundredths_skips : (z : ℤ) → Skips test (hundredths_text z)
  unfolding hundredths_text
  hundredths_skips (pos m) = magnitude_skips m
  hundredths_skips (negsuc m) = skips_cons test 45 (magnitude_text (suc m)) minus (magnitude_skips (suc m))

-- ---- reading what was written

-- the whole part and the decimals are cut at the point
cut : (us ds : List ℕ) → before 46 (us ++ (46 ∷ ds)) ≡ length us → magnitude (us ++ (46 ∷ ds)) ≡ joined (read_whole us) (decimals ds)
unfolding magnitude
cut us ds e =
    let n : length us ≡ length (us ++ (46 ∷ ds)) → ⊥ = λ q. omega (arith, q, length-append us (46 ∷ ds)) in
    rw (e, take-append_seam us (46 ∷ ds), ne_eqb _ _ n, drop-append-add us (46 ∷ ds) 1)

two_decimals : (v : ℕ) → v < 100 → decimals (digit 10 v ++ digit 1 v) ≡ Some v
unfolding decimals digit
two_decimals v h = rw (read_two v h) (ap Some (omega arith))

digit_not : (a : ℕ) → a < 48 → (d : ℕ) → d < 10 → eqb (d + 48) a ≡ false
digit_not a h d k = ne_eqb (d + 48) a (λ e. omega arith)

read_magnitude : (m : ℕ) → m < 1000000 → magnitude (magnitude_text m) ≡ Some m
unfolding magnitude_text
read_magnitude m h =
    let w : ℕ = m / 100 % 10000 in
    let point = skips_stop (λ b. eqb b 46) (shortest w) 46 _ (shortest_skips _ (digit_not 46 (omega arith)) w) refl in
    cut (shortest w) _ point
    ∙ rw (read_shortest w (omega arith), two_decimals (m % 100) (omega arith)) (ap Some (omega arith))

-- a magnitude does not start with "-"
unsigned : (m : ℕ) → get_or (magnitude_text m) 0 0 ≡ 45 → ⊥
unfolding magnitude_text
unsigned m =
    let ds : List ℕ = 46 ∷ (digit 10 (m % 100) ++ digit 1 (m % 100)) in
    not_first 45 (shortest (m / 100 % 10000) ++ ds) (omega (arith, shortest_skips (λ b. eqb b 45) (digit_not 45 (omega arith)) (m / 100 % 10000) ds, shortest_some (m / 100 % 10000)))

pub read_hundredths_lem : (z : ℤ) → nat_abs z < 1000000 → read_hundredths (hundredths_text z) ≡ Some z
unfolding read_hundredths hundredths_text
read_hundredths_lem (pos m) h = rw (ne_eqb _ _ (unsigned m)) (ap (option_map (signed false)) (read_magnitude m h))
read_hundredths_lem (negsuc m) h = ap (option_map (signed true)) (read_magnitude (suc m) h)
