-- Laws of a field that is read in its place: its digits, the byte that they end at, and what it then is as a number.
use Prim.Native.Nat.{ℕ, zero, suc, ◌+◌, ◌*◌, ◌-◌, ◌≤◌, ◌<◌}
use mathlib.Core.Path.{◌≡◌, refl, sym, ap, subst, ◌∙◌}
use mathlib.Core.Bool.{Bool, true, false, cond, ◌&&◌}
use mathlib.Core.List.{List, [], ◌∷◌}
use Rattle.std.specs.Prelude.{None, Some}
use Rattle.std.proofs.lemmas.Option.{none-some}
use native.Mathlib.Omega.{arith}
use borrow.Author.Tests.{le-leb, lt-leb, lt-ltb, eq-eqb, ne_eqb}
use lib.Dec.{leb, ltb, eqb, leb-suc-suc}
use lib.Arith.{lt_of_le-ne}
use lib.ListN.{length, get_or, take, drop, length-drop}
use lib.Seq.{length-take-le, drop-drop, get_or-drop}
use Rattle.text.specs.Scan.{until, before, field_at, end_at, empty_or}
use Rattle.text.specs.Whole.{is_digit, digits_onto, read_whole, digit_count, digit_value}
use Rattle.text.specs.Hundredths.{magnitude, joined, decimals}
use Rattle.text.proofs.Laws.{here, over}

-- ---- a search stays inside

pub until_within : (test : ℕ → Bool) (s : List ℕ) → until test s ≤ length s
unfolding until
until_within test [] = omega arith
until_within test (b ∷ bs) = go (test b) (until_within test bs)
  where
    go : (t : Bool) → until test bs ≤ length bs → cond t zero (suc (until test bs)) ≤ suc (length bs)
    go true h = omega arith
    go false h = omega arith

-- ---- the digits at the front of a text, where the text goes up to the first a, which is none of them

false_true : {A : Type 0} → false ≡ true → A
false_true e = absurd (subst (λ (t : Bool). cond t ⊥ Unit) e tt)

either : {A : Type 0} (t : Bool) (x : A) → cond t x x ≡ x
either true x = refl
either false x = refl

module _ (a : ℕ) (nd : is_digit a ≡ false) where
  other : (b : ℕ) → is_digit b ≡ true → eqb b a ≡ false
  other b d = go (eqb b a) refl
    where
      go : (t : Bool) → eqb b a ≡ t → t ≡ false
      go true e = sym e ∙ ne_eqb b a (λ q. false_true (sym nd ∙ sym (ap is_digit q) ∙ d))
      go false e = refl

  -- they stand before it
  digits_before : (k : ℕ) (s : List ℕ) → before a s ≡ digit_count k s + before a (drop (digit_count k s) s)
  unfolding until digit_count
  digits_before zero s = omega arith
  digits_before (suc k) [] = refl
  digits_before (suc k) (b ∷ bs) = go (is_digit b) refl (digits_before k bs)
    where
      go : (t : Bool) → is_digit b ≡ t → before a bs ≡ digit_count k bs + before a (drop (digit_count k bs) bs) → before a (b ∷ bs) ≡ cond t (suc (digit_count k bs)) zero + before a (drop (cond t (suc (digit_count k bs)) zero) (b ∷ bs))
      go true e ih = rw (other b e) (omega arith)
      go false e ih = omega arith

  -- what follows them there
  digits_drop : (k : ℕ) (s : List ℕ) → drop (digit_count k s) (take (before a s) s) ≡ take (before a (drop (digit_count k s) s)) (drop (digit_count k s) s)
  unfolding until digit_count
  digits_drop zero s = refl
  digits_drop (suc k) [] = refl
  digits_drop (suc k) (b ∷ bs) = go (is_digit b) refl (digits_drop k bs)
    where
      go : (t : Bool) → is_digit b ≡ t → drop (digit_count k bs) (take (before a bs) bs) ≡ take (before a (drop (digit_count k bs) bs)) (drop (digit_count k bs) bs) → drop (cond t (suc (digit_count k bs)) zero) (take (before a (b ∷ bs)) (b ∷ bs)) ≡ take (before a (drop (cond t (suc (digit_count k bs)) zero) (b ∷ bs))) (drop (cond t (suc (digit_count k bs)) zero) (b ∷ bs))
      go true e ih = rw (other b e) ih
      go false e ih = refl

  -- and they are the digits of that part alone
  digits_count : (k : ℕ) (s : List ℕ) → digit_count k (take (before a s) s) ≡ digit_count k s
  unfolding until digit_count
  digits_count zero s = refl
  digits_count (suc k) [] = refl
  digits_count (suc k) (b ∷ bs) = go (is_digit b) (eqb b a) refl refl (digits_count k bs)
    where
      go : (t u : Bool) → is_digit b ≡ t → eqb b a ≡ u → digit_count k (take (before a bs) bs) ≡ digit_count k bs → digit_count (suc k) (take (cond u zero (suc (before a bs))) (b ∷ bs)) ≡ cond t (suc (digit_count k bs)) zero
      go true true e f ih = false_true (sym (other b e) ∙ f)
      go true false e f ih = rw (e, ih)
      go false true e f ih = refl
      go false false e f ih = rw e

  digits_value : (k n : ℕ) (s : List ℕ) → digit_value k n (take (before a s) s) ≡ digit_value k n s
  unfolding until digit_value
  digits_value zero n s = refl
  digits_value (suc k) n [] = refl
  digits_value (suc k) n (b ∷ bs) = go (is_digit b) (eqb b a) refl refl (digits_value k (n * 10 + (b - 48)) bs)
    where
      go : (t u : Bool) → is_digit b ≡ t → eqb b a ≡ u → digit_value k (n * 10 + (b - 48)) (take (before a bs) bs) ≡ digit_value k (n * 10 + (b - 48)) bs → digit_value (suc k) n (take (cond u zero (suc (before a bs))) (b ∷ bs)) ≡ cond t (digit_value k (n * 10 + (b - 48)) bs) n
      go true true e f ih = false_true (sym (other b e) ∙ f)
      go true false e f ih = rw (e, ih)
      go false true e f ih = refl
      go false false e f ih = rw e

  -- the part up to the first a, read onto n, where it has k bytes at most
  read_onto : (k n : ℕ) (s : List ℕ) → cond (leb (before a s) k) (digits_onto n (take (before a s) s)) None ≡ cond (empty_or a (drop (digit_count k s) s)) (Some (digit_value k n s)) None
  unfolding until digit_count digit_value digits_onto
  read_onto zero n [] = refl
  read_onto zero n (b ∷ bs) = go (eqb b a)
    where
      go : (u : Bool) → cond (leb (cond u zero (suc (before a bs))) 0) (digits_onto n (take (cond u zero (suc (before a bs))) (b ∷ bs))) None ≡ cond u (Some n) None
      go true = refl
      go false = rw (lt-leb (suc (before a bs)) 0 (omega arith))
  read_onto (suc k) n [] = rw (le-leb 0 (suc k) (omega arith))
  read_onto (suc k) n (b ∷ bs) = go (is_digit b) (eqb b a) refl refl (read_onto k (n * 10 + (b - 48)) bs)
    where
      go : (t u : Bool) → is_digit b ≡ t → eqb b a ≡ u → cond (leb (before a bs) k) (digits_onto (n * 10 + (b - 48)) (take (before a bs) bs)) None ≡ cond (empty_or a (drop (digit_count k bs) bs)) (Some (digit_value k (n * 10 + (b - 48)) bs)) None → cond (leb (cond u zero (suc (before a bs))) (suc k)) (digits_onto n (take (cond u zero (suc (before a bs))) (b ∷ bs))) None ≡ cond (empty_or a (drop (cond t (suc (digit_count k bs)) zero) (b ∷ bs))) (Some (cond t (digit_value k (n * 10 + (b - 48)) bs) n)) None
      go true true e f ih = false_true (sym (other b e) ∙ f)
      go true false e f ih = rw (leb-suc-suc (before a bs) k, e) ih
      go false true e f ih = rw (f, le-leb 0 (suc k) (omega arith))
      go false false e f ih = rw (e, f) (either (leb (suc (before a bs)) (suc k)) None)

  -- nothing stands before it
  none_before : (s : List ℕ) → empty_or a s ≡ true → before a s ≡ 0
  unfolding until
  none_before [] e = refl
  none_before (b ∷ bs) e = rw e

  module _ (s : List ℕ) where
    pub part_length : length (take (before a s) s) ≡ before a s
    part_length = length-take-le (before a s) s (until_within (λ b. eqb b a) s)

    -- the digits end at it
    pub digits_end : empty_or a (drop (digit_count 4 s) s) ≡ true → before a s ≡ digit_count 4 s
    digits_end e = omega (arith, digits_before 4 s, none_before (drop (digit_count 4 s) s) e)

    pub whole_read : 1 ≤ digit_count 4 s → empty_or a (drop (digit_count 4 s) s) ≡ true → read_whole (take (before a s) s) ≡ Some (digit_value 4 0 s)
    unfolding read_whole
    whole_read h e = rw (part_length, le-leb 1 (before a s) (omega (arith, digits_end e))) (read_onto 4 0 s ∙ rw e)

    -- they end at another byte, or there are none
    pub whole_other : empty_or a (drop (digit_count 4 s) s) ≡ false → read_whole (take (before a s) s) ≡ None
    unfolding read_whole
    whole_other e = rw part_length (go (leb 1 (before a s)) (read_onto 4 0 s ∙ rw e))
      where
        go : (t : Bool) → cond (leb (before a s) 4) (digits_onto 0 (take (before a s) s)) None ≡ None → cond (t && leb (before a s) 4) (digits_onto 0 (take (before a s) s)) None ≡ None
        go true p = p
        go false p = refl

    pub whole_none : digit_count 4 s ≡ 0 → read_whole (take (before a s) s) ≡ None
    unfolding read_whole
    whole_none z = go (empty_or a (drop (digit_count 4 s) s)) refl
      where
        go : (t : Bool) → empty_or a (drop (digit_count 4 s) s) ≡ t → read_whole (take (before a s) s) ≡ None
        go true e = rw (part_length, lt-leb 1 (before a s) (omega (arith, digits_end e)))
        go false e = whole_other e

-- ---- a field that does not end at e goes on

pub inside : (s : List ℕ) (e : ℕ) → e ≤ length s → false ≡ empty_or 32 (drop e s) → e < length s
inside s e l r = lt_of_le-ne l (λ z. false_true (r ∙ rw (over s e (omega arith))))

-- ---- where n digits that stand at index i end

pub end_test : (s : List ℕ) (i n : ℕ) {e : ℕ} {t : Bool} → e ≡ i + n → t ≡ empty_or 32 (drop e s) → empty_or 32 (drop n (drop i s)) ≡ t
end_test s i n q r = rw (drop-drop n i s, ← q) (sym r)

pub some_digits : (i n : ℕ) {e : ℕ} → e ≡ i + n → (e ≡ i → ⊥) → 1 ≤ n
some_digits i zero q h = absurd (h (omega arith))
some_digits i (suc n) q h = omega arith

-- ---- a field as the digits after a point

pub decimals_none : (f : List ℕ) → read_whole f ≡ None → decimals f ≡ None
unfolding decimals
decimals_none f e = rw e (either (ltb 2 (length f)) None)

module _ (f : List ℕ) {v : ℕ} (e : read_whole f ≡ Some v) where
  pub decimals_one : length f ≡ 1 → decimals f ≡ Some (v * 10)
  unfolding decimals
  decimals_one l = rw (l, e)

  pub decimals_two : length f ≡ 2 → decimals f ≡ Some v
  unfolding decimals
  decimals_two l = rw (l, e) (ap Some (omega arith))

  pub decimals_more : (length f ≡ 1 → ⊥) → (length f ≡ 2 → ⊥) → decimals f ≡ None
  unfolding decimals read_whole
  decimals_more n m = go (length f) refl
    where
      go : (l : ℕ) → length f ≡ l → decimals f ≡ None
      go zero z = absurd (none-some v (rw z at e))
      go (suc zero) z = absurd (n z)
      go (suc (suc zero)) z = absurd (m z)
      go (suc (suc (suc l))) z = rw (lt-ltb 2 (length f) (omega arith))

-- ---- a field as a number without a sign: t is the text from its first byte on

module _ (t : List ℕ) where
  field : List ℕ
  field = take (before 32 t) t

  count : digit_count 4 field ≡ digit_count 4 t
  unfolding field
  count = digits_count 32 refl 4 t

  value : digit_value 4 0 field ≡ digit_value 4 0 t
  unfolding field
  value = digits_value 32 refl 4 0 t

  follows : drop (digit_count 4 t) field ≡ take (before 32 (drop (digit_count 4 t) t)) (drop (digit_count 4 t) t)
  unfolding field
  follows = digits_drop 32 refl 4 t

  magnitude_none : digit_count 4 t ≡ 0 → magnitude (take (before 32 t) t) ≡ None
  unfolding magnitude field
  magnitude_none z = rw (whole_none 46 refl field (count ∙ z))

  -- it ends with its digits
  magnitude_whole : 1 ≤ digit_count 4 t → empty_or 32 (drop (digit_count 4 t) t) ≡ true → magnitude (take (before 32 t) t) ≡ Some (digit_value 4 0 t * 100)
  unfolding magnitude field
  magnitude_whole h e =
      let z : before 32 (drop (digit_count 4 t) t) ≡ 0 = none_before 32 refl (drop (digit_count 4 t) t) e in
      let stop : empty_or 46 (drop (digit_count 4 field) field) ≡ true = rw (count, follows, z) in
      let p : before 46 field ≡ digit_count 4 t = digits_end 46 refl field stop ∙ count in
      let l : length field ≡ digit_count 4 t = part_length 32 refl t ∙ digits_end 32 refl t e in
      rw (whole_read 46 refl field (rw count h) stop, p, l, eq-eqb (digit_count 4 t) (digit_count 4 t) refl, value) (ap Some (omega arith))

  -- another byte follows them
  module _ (m : digit_count 4 t < length t) (o : empty_or 32 (drop (digit_count 4 t) t) ≡ false) where
    some_before : 1 ≤ before 32 (drop (digit_count 4 t) t)
    unfolding until
    some_before = rw (here t (digit_count 4 t) m, rw (here t (digit_count 4 t) m) at o) (omega arith)

    past : before 32 t ≡ digit_count 4 t + 1 + before 32 (drop (digit_count 4 t + 1) t)
    unfolding until
    past =
        digits_before 32 refl 4 t
        ∙ rw (here t (digit_count 4 t) m, rw (here t (digit_count 4 t) m) at o) (omega arith)

    behind : drop (digit_count 4 t) field ≡ get_or t (digit_count 4 t) 0 ∷ take (before 32 (drop (digit_count 4 t + 1) t)) (drop (digit_count 4 t + 1) t)
    unfolding until
    behind = follows ∙ rw (here t (digit_count 4 t) m) (rw (rw (here t (digit_count 4 t) m) at o))

    magnitude_other : (get_or t (digit_count 4 t) 0 ≡ 46 → ⊥) → magnitude (take (before 32 t) t) ≡ None
    unfolding magnitude field
    magnitude_other h = rw (whole_other 46 refl field (rw (count, behind) (ne_eqb _ _ h)))

    -- a point
    magnitude_point : 1 ≤ digit_count 4 t → get_or t (digit_count 4 t) 0 ≡ 46 → magnitude (take (before 32 t) t) ≡ joined (Some (digit_value 4 0 t)) (decimals (take (before 32 (drop (digit_count 4 t + 1) t)) (drop (digit_count 4 t + 1) t)))
    unfolding magnitude field
    magnitude_point h e =
        let stop : empty_or 46 (drop (digit_count 4 field) field) ≡ true = rw (count, behind) (eq-eqb _ _ e) in
        let p : before 46 field ≡ digit_count 4 t = digits_end 46 refl field stop ∙ count in
        let d : drop (digit_count 4 t + 1) field ≡ take (before 32 (drop (digit_count 4 t + 1) t)) (drop (digit_count 4 t + 1) t) = sym (drop-drop 1 (digit_count 4 t) field) ∙ rw behind in
        let l : digit_count 4 t < length field = omega (arith, part_length 32 refl t, digits_before 32 refl 4 t, some_before) in
        rw (whole_read 46 refl field (rw count h) stop, p, ne_eqb (digit_count 4 t) (length field) (λ z. omega arith), value, d)

-- the same, where the field stands at index i of s and its digits end at e
module _ (s : List ℕ) (i e : ℕ) (q : e ≡ i + digit_count 4 (drop i s)) where
  pub field_none : e ≡ i → magnitude (field_at s i) ≡ None
  field_none z = magnitude_none (drop i s) (omega arith)

  pub field_whole : (e ≡ i → ⊥) → true ≡ empty_or 32 (drop e s) → (magnitude (field_at s i) ≡ Some (digit_value 4 0 (drop i s) * 100)) × (e ≡ end_at s i)
  field_whole n r =
      let t = end_test s i (digit_count 4 (drop i s)) q r in
      (magnitude_whole (drop i s) (some_digits i _ q n) t, omega (arith, digits_end 32 refl (drop i s) t))

  module _ (l : e ≤ length s) (r : false ≡ empty_or 32 (drop e s)) where
    within : digit_count 4 (drop i s) < length (drop i s)
    within = omega (arith, inside s e l r, length-drop i s)

    byte : get_or (drop i s) (digit_count 4 (drop i s)) 0 ≡ get_or s e 0
    byte = get_or-drop i s (digit_count 4 (drop i s)) 0 ∙ rw (← q)

    pub field_other : (get_or s e 0 ≡ 46 → ⊥) → magnitude (field_at s i) ≡ None
    field_other n = magnitude_other (drop i s) within (end_test s i (digit_count 4 (drop i s)) q r) (λ z. n (sym byte ∙ z))

    pub field_point : (e ≡ i → ⊥) → get_or s e 0 ≡ 46 → (magnitude (field_at s i) ≡ joined (Some (digit_value 4 0 (drop i s))) (decimals (field_at s (e + 1)))) × (end_at s (e + 1) ≡ end_at s i)
    field_point n z =
        let t = end_test s i (digit_count 4 (drop i s)) q r in
        let k : i + (digit_count 4 (drop i s) + 1) ≡ e + 1 = omega arith in
        let d : drop (digit_count 4 (drop i s) + 1) (drop i s) ≡ drop (e + 1) s = drop-drop (digit_count 4 (drop i s) + 1) i s ∙ rw k in (
          magnitude_point (drop i s) within t (some_digits i _ q n) (byte ∙ z) ∙ rw d,
          omega (arith, rw d at (past (drop i s) within t)),
        )

-- ---- a field by its first byte

front : (t : List ℕ) (a : ℕ) → 1 ≤ a → get_or (take (before 32 t) t) 0 0 ≡ a → get_or t 0 0 ≡ a
unfolding until
front [] a h e = absurd (omega arith)
front (b ∷ bs) a h e = go (eqb b 32) e
  where
    go : (t : Bool) → get_or (take (cond t zero (suc (before 32 bs))) (b ∷ bs)) 0 0 ≡ a → b ≡ a
    go true e = absurd (omega arith)
    go false e = e

module _ (s : List ℕ) (i : ℕ) where
  pub field_cons : i < length s → (get_or s i 0 ≡ 32 → ⊥) → (field_at s i ≡ get_or s i 0 ∷ field_at s (i + 1)) × (end_at s (i + 1) ≡ end_at s i)
  unfolding until
  field_cons h n = rw (here s i h, ne_eqb _ _ n) (refl, omega arith)

  pub field_front : (a : ℕ) → 1 ≤ a → i < length s → (get_or s i 0 ≡ a → ⊥) → get_or (field_at s i) 0 0 ≡ a → ⊥
  field_front a h l n e = n (rw (here s i l) at (front (drop i s) a h e))

  pub field_past : (a : ℕ) → 1 ≤ a → length s ≤ i → get_or (field_at s i) 0 0 ≡ a → ⊥
  field_past a h l e = omega (arith, rw (over s i l) at (front (drop i s) a h e))
