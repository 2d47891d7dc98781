-- Laws of texts with one SP between each two, whatever the texts are, and of the fields of a text from an index on.
use Prim.Native.Nat.{ℕ, zero, suc, ◌+◌, ◌*◌, ◌≤◌, ◌<◌}
use mathlib.Core.Path.{◌≡◌, refl, ap, ap₂, ◌∙◌}
use mathlib.Core.Bool.{Bool, false, cond}
use mathlib.Core.List.{List, [], ◌∷◌, ◌++◌, map, append-nil}
use Rattle.std.specs.Prelude.{Option, None, Some}
use Rattle.std.proofs.lemmas.Option.{none-some, same_Some}
use native.Mathlib.Omega.{arith}
use native.Mathlib.Decide.{ℕ_discrete}
use native.Mathlib.Nat.{mul-suc}
use borrow.Author.Tests.{le-ltb, lt-ltb}
use lib.Arith.{lt_of_le-ne}
use lib.Dec.{ltb, eqb}
use lib.ListN.{length, drop, length-append, length-drop}
use Rattle.text.specs.Scan.{field_at, end_at}
use Rattle.text.proofs.Laws.{Skips, skips_append, skips_cons}
use Rattle.text.proofs.Fields.{until_within}
use Rattle.frame.specs.Fields.{fields, Placed, placed, with_first, read_fields, following, spaced}
use Rattle.frame.proofs.Laws.{fields_cons, fields_one}
use Rattle.frame.proofs.Placed.{placed_only, placed_next}

-- ---- every one of a list

abbrev pub Each : {A : Type 0} → (A → Type 0) → List A → Type 0
Each P [] = Unit
Each P (x ∷ xs) = P x × Each P xs

pub each_map : {A B : Type 0} (P : B → Type 0) (f : A → B) → ((x : A) → P (f x)) → (xs : List A) → Each P (map f xs)
each_map P f g [] = tt
each_map P f g (x ∷ xs) = (g x, each_map P f g xs)

-- ---- texts with SP between them

-- a search passes over them that passes over each of them and over SP
module _ (test : ℕ → Bool) (space : test 32 ≡ false) where
  pub following_skips : (ts : List (List ℕ)) → Each (Skips test) ts → Skips test (following ts)
  following_skips [] a = λ bs. omega arith
  following_skips (t ∷ ts) a =
      skips_cons test 32 (t ++ following ts) space (skips_append test t (following ts) a.0 (following_skips ts a.1))

  pub spaced_skips : (ts : List (List ℕ)) → Each (Skips test) ts → Skips test (spaced ts)
  spaced_skips [] a = λ bs. omega arith
  spaced_skips (t ∷ ts) a = skips_append test t (following ts) a.0 (following_skips ts a.1)

-- each of at most m bytes
module _ (m : ℕ) where
  pub following_length : (ts : List (List ℕ)) → Each (λ t. length t ≤ m) ts → length (following ts) ≤ (m + 1) * length ts
  following_length [] a = omega arith
  following_length (t ∷ ts) a =
      omega (arith, length-append t (following ts), a.0, following_length ts a.1, mul-suc (m + 1) (length ts))

  pub spaced_length : (t : List ℕ) (ts : List (List ℕ)) → Each (λ t. length t ≤ m) (t ∷ ts) → length (spaced (t ∷ ts)) ≤ m + (m + 1) * length ts
  spaced_length t ts a = omega (arith, length-append t (following ts), a.0, following_length ts a.1)

-- their fields, where none of them has SP
pub fields_spaced : (t : List ℕ) (ts : List (List ℕ)) → Each (Skips (λ b. eqb b 32)) (t ∷ ts) → fields (spaced (t ∷ ts)) ≡ t ∷ ts
fields_spaced t [] a = rw (append-nil t) (fields_one t a.0)
fields_spaced t (u ∷ us) a = rw (fields_cons t (spaced (u ∷ us)) a.0) (ap (λ ts. t ∷ ts) (fields_spaced u us a.1))

-- fields that each read back
pub fields_back : {A : Type 0} (read : List ℕ → Option A) (write : A → List ℕ) (xs : List A) → Each (λ x. read (write x) ≡ Some x) xs → read_fields read (length xs) (map write xs) ≡ Some xs
unfolding read_fields
fields_back read write [] a = refl
fields_back read write (x ∷ xs) a = ap₂ with_first a.0 (fields_back read write xs a.1)

-- what is read from n fields: n values, and of each what reading it tells
module _ {A : Type 0} (P : A → Type 0) (read : List ℕ → Option A) (tells : (f : List ℕ) (x : A) → read f ≡ Some x → P x) where
  pub fields_each : (n : ℕ) (fs : List (List ℕ)) (xs : List A) → read_fields read n fs ≡ Some xs → Each P xs × (length xs ≡ n)
  unfolding read_fields
  fields_each zero [] xs e = rw (← same_Some [] xs e) (tt, refl)
  fields_each zero (f ∷ fs) xs e = absurd (none-some xs e)
  fields_each (suc n) [] xs e = absurd (none-some xs e)
  fields_each (suc n) (f ∷ fs) xs e = go (read f) (read_fields read n fs) refl refl e (fields_each n fs)
    where
      go :
          (o : Option A) (os : Option (List A)) →
          read f ≡ o →
          read_fields read n fs ≡ os →
          with_first o os ≡ Some xs →
          ((ys : List A) → read_fields read n fs ≡ Some ys → Each P ys × (length ys ≡ n)) →
          Each P xs × (length xs ≡ suc n)
      go (Some v) (Some vs) p q e ih =
          let r = ih vs q in
          rw (← same_Some (v ∷ vs) xs e) ((tells f v p, r.0), omega (arith, r.1))
      go (Some v) None p q e ih = absurd (none-some xs e)
      go None os p q e ih = absurd (none-some xs e)

-- ---- the fields that are left where the next one starts at p: none past the end

unfoldable pub left : List ℕ → ℕ → List Placed
left s p = cond (ltb (length s) p) [] (placed p (drop p s))

module _ (s : List ℕ) (p : ℕ) where
  pub some_left : p ≤ length s → left s p ≡ placed p (drop p s)
  unfolding left
  some_left h = rw (le-ltb (length s) p h)

  pub none_left : length s < p → left s p ≡ []
  unfolding left
  none_left h = rw (lt-ltb (length s) p h)

-- the next field, and those behind it
pub next_left : (s : List ℕ) (p : ℕ) → p ≤ length s → left s p ≡ record { position = p; text = field_at s p } ∷ left s (end_at s p + 1)
next_left s p h = some_left s p h ∙ go (ℕ_discrete (end_at s p) (length s))
  where
    go : Dec (end_at s p ≡ length s) → placed p (drop p s) ≡ record { position = p; text = field_at s p } ∷ left s (end_at s p + 1)
    go (yes z) = placed_only s p h z ∙ rw (none_left s (end_at s p + 1) (omega arith))
    go (no n) =
        let l : end_at s p < length s = lt_of_le-ne (omega (arith, length-drop p s, until_within (λ b. eqb b 32) (drop p s))) n in
        placed_next s p h n ∙ rw (some_left s (end_at s p + 1) (omega arith))
