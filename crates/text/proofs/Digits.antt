-- Whole numbers: each of 0..9999 reads back as itself from its shortest text and from its text of 4 digits.
use Prim.Native.Nat.{ℕ, ◌+◌, ◌*◌, ◌≤◌, ◌<◌, ◌/◌, ◌%◌}
use mathlib.Core.Path.{◌≡◌, refl, ap, ◌∙◌}
use mathlib.Core.Bool.{Bool, true, false}
use mathlib.Core.List.{List, [], ◌∷◌, ◌++◌}
use Rattle.std.specs.Prelude.{Some}
use native.Mathlib.Omega.{arith}
use native.Mathlib.Nat.{add-sub_cancel, div-eq_of_lt}
use borrow.Author.Tests.{le-leb, lt-ltb, le-ltb, ltb-true, ltb-false}
use lib.Dec.{ltb}
use lib.ListN.{length, length-append}
use Rattle.text.specs.Scan.{until}
use Rattle.text.proofs.Laws.{Skips, skips_append}
use Rattle.text.specs.Whole.{is_digit, digits_onto, read_whole, digit, leading, shortest, two_digits, padded}

-- ---- lengths

pub digit_length : (u v : ℕ) → length (digit u v) ≡ 1
unfolding digit
digit_length u v = refl

pub leading_none : (u v : ℕ) → v < u → leading u v ≡ []
unfolding leading
leading_none u v h = rw (lt-ltb v u h)

pub leading_some : (u v : ℕ) → u ≤ v → leading u v ≡ digit u v
unfolding leading
leading_some u v h = rw (le-ltb v u h)

pub leading_length : (u v : ℕ) → length (leading u v) ≤ 1
leading_length u v = go (ltb v u) refl
  where
    go : (t : Bool) → ltb v u ≡ t → length (leading u v) ≤ 1
    go true e = rw (leading_none u v (ltb-true v u e)) (omega arith)
    go false e = rw (leading_some u v (ltb-false v u e), digit_length u v) (omega arith)

pub shortest_length : (v : ℕ) → length (shortest v) ≡ length (leading 1000 v) + (length (leading 100 v) + (length (leading 10 v) + 1))
unfolding shortest
shortest_length v = simp (length-append, digit_length)

pub shortest_some : (v : ℕ) → 1 ≤ length (shortest v)
shortest_some v = omega (arith, shortest_length v)

pub shortest_short : (v : ℕ) → length (shortest v) ≤ 4
shortest_short v = omega (arith, shortest_length v, leading_length 1000 v, leading_length 100 v, leading_length 10 v)

-- a greater number has no fewer digits
leading_grows : (u v w : ℕ) → v ≤ w → length (leading u v) ≤ length (leading u w)
leading_grows u v w h = go (ltb v u) refl
  where
    go : (t : Bool) → ltb v u ≡ t → length (leading u v) ≤ length (leading u w)
    go true e = rw (leading_none u v (ltb-true v u e)) (omega arith)
    go false e =
        let l = ltb-false v u e in
        rw (leading_some u v l, leading_some u w (omega arith), digit_length u v, digit_length u w) (omega arith)

pub shortest_grows : (v w : ℕ) → v ≤ w → length (shortest v) ≤ length (shortest w)
shortest_grows v w h =
    omega (arith, shortest_length v, shortest_length w, leading_grows 1000 v w h, leading_grows 100 v w h, leading_grows 10 v w h)

pub padded_length : (v : ℕ) → length (padded v) ≡ 4
unfolding padded
padded_length v = simp (length-append, digit_length)

pub two_length : (v : ℕ) → length (two_digits v) ≡ 2
two_length v = simp (length-append, digit_length)

-- ---- reading what was written

pub digit_ok : (d : ℕ) → d < 10 → is_digit (d + 48) ≡ true
digit_ok d h = simp (le-leb 48 (d + 48) (omega arith), le-leb (d + 48) 57 (omega arith))

-- one digit read onto n
one_more_lem : (n d : ℕ) (bs : List ℕ) → d < 10 → digits_onto n ((d + 48) ∷ bs) ≡ digits_onto (n * 10 + d) bs
unfolding digits_onto
one_more_lem n d bs h = simp (digit_ok d h, add-sub_cancel)

-- a digit takes v / u / 10 to v / u
digit_read : (u v n : ℕ) (bs : List ℕ) → n ≡ v / u / 10 → digits_onto n (digit u v ++ bs) ≡ digits_onto (v / u) bs
unfolding digit
digit_read u v n bs e =
    one_more_lem n (v / u % 10) bs (omega arith) ∙ ap (λ (m : ℕ). digits_onto m bs) (whole_part (v / u) e)
  where
    whole_part : (q : ℕ) → n ≡ q / 10 → n * 10 + q % 10 ≡ q
    whole_part q e = omega arith

-- so does a digit that is left out, since both are 0 then
leading_read : (u v n : ℕ) (bs : List ℕ) → n ≡ v / u / 10 → digits_onto n (leading u v ++ bs) ≡ digits_onto (v / u) bs
leading_read u v n bs e = go (ltb v u) refl
  where
    go : (t : Bool) → ltb v u ≡ t → digits_onto n (leading u v ++ bs) ≡ digits_onto (v / u) bs
    go true q =
        let z : v / u ≡ 0 = div-eq_of_lt (ltb-true v u q) in
        rw (leading_none u v (ltb-true v u q)) (ap (λ (m : ℕ). digits_onto m bs) (omega arith))
    go false q = rw (leading_some u v (ltb-false v u q)) (digit_read u v n bs e)

-- the last digit, in either form
last_read : (v n : ℕ) → n ≡ v / 10 → digits_onto n (digit 1 v) ≡ Some v
unfolding digit digits_onto
last_read v n e = digit_read 1 v n [] (omega arith) ∙ ap Some (omega arith)

-- 1 to 4 digits are a whole number
read_is : (s : List ℕ) (v : ℕ) → 1 ≤ length s → length s ≤ 4 → digits_onto 0 s ≡ Some v → read_whole s ≡ Some v
unfolding read_whole
read_is s v a b e = rw (le-leb _ _ a, le-leb _ _ b) e

pub read_shortest : (v : ℕ) → v < 10000 → read_whole (shortest v) ≡ Some v
unfolding shortest
read_shortest v h =
    read_is (shortest v) v (shortest_some v) (shortest_short v)
    (leading_read 1000 v 0 _ (omega arith) ∙ leading_read 100 v _ _ (omega arith) ∙ leading_read 10 v _ _ (omega arith) ∙ last_read v _ refl)

pub read_padded : (v : ℕ) → v < 10000 → read_whole (padded v) ≡ Some v
unfolding padded
read_padded v h =
    read_is (padded v) v (omega (arith, padded_length v)) (omega (arith, padded_length v))
    (digit_read 1000 v 0 _ (omega arith) ∙ digit_read 100 v _ _ (omega arith) ∙ digit_read 10 v _ _ (omega arith) ∙ last_read v _ refl)

-- two digits, as after a point
pub read_two : (v : ℕ) → v < 100 → read_whole (two_digits v) ≡ Some v
read_two v h =
    let k : length (two_digits v) ≡ 2 = two_length v in
    read_is (two_digits v) v (omega arith) (omega arith) (digit_read 10 v 0 (digit 1 v) (omega arith) ∙ last_read v _ refl)

-- ---- a search for what is no digit passes over the digits

module _ (test : ℕ → Bool) (none : (d : ℕ) → d < 10 → test (d + 48) ≡ false) where
  pub digit_skips : (u v : ℕ) → Skips test (digit u v)
  unfolding digit until
  digit_skips u v bs = rw (none (v / u % 10) (omega arith)) (omega arith)

  pub leading_skips : (u v : ℕ) → Skips test (leading u v)
  leading_skips u v = go (ltb v u) refl
    where
      go : (t : Bool) → ltb v u ≡ t → Skips test (leading u v)
      go true e = rw (leading_none u v (ltb-true v u e)) (λ bs. omega arith)
      go false e = rw (leading_some u v (ltb-false v u e)) (digit_skips u v)

  pub shortest_skips : (v : ℕ) → Skips test (shortest v)
  unfolding shortest
  shortest_skips v =
      skips_append test (leading 1000 v) _ (leading_skips 1000 v)
      (skips_append test (leading 100 v) _ (leading_skips 100 v)
      (skips_append test (leading 10 v) _ (leading_skips 10 v) (digit_skips 1 v)))

  pub two_skips : (v : ℕ) → Skips test (two_digits v)
  two_skips v = skips_append test (digit 10 v) (digit 1 v) (digit_skips 10 v) (digit_skips 1 v)

  pub padded_skips : (v : ℕ) → Skips test (padded v)
  unfolding padded
  padded_skips v =
      skips_append test (digit 1000 v) _ (digit_skips 1000 v)
      (skips_append test (digit 100 v) _ (digit_skips 100 v) (two_skips v))
