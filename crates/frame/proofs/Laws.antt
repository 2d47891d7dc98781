-- Laws about parts of a slice, and about fields, which are cut by the place of the next SP.
use Prim.Native.Nat.{ℕ, zero, suc, ◌+◌, ◌-◌, ◌≤◌, ◌<◌}
use mathlib.Core.Path.{◌≡◌, refl, ap, ◌∙◌}
use mathlib.Core.Bool.{Bool, true, false, cond}
use mathlib.Core.List.{List, [], ◌∷◌, ◌++◌, append-nil}
use native.Mathlib.Nat.{sub-zero, zero-sub, suc-sub-suc}
use native.Mathlib.Omega.{arith}
use native.Mathlib.Numerals.{add-one}
use lib.Arith.{lt_of_le-ne}
use lib.ListN.{length, take, drop, length-append}
use lib.Seq.{slice, take-nil, take_all, take-length, take-append_seam, drop-append-add}
use lib.Dec.{eqb}
use Rattle.text.specs.Scan.{until, before}
use Rattle.text.proofs.Laws.{Skips, skips_stop}
use Rattle.text.proofs.Fields.{until_within}
use Rattle.frame.specs.Fields.{first, more, fields}

-- ---- a part of a slice, cut at its start or at its end first

pub part_is : (a e : ℕ) (s : List ℕ) → take (e - a) (drop a s) ≡ slice a e s
part_is zero e s = ap (λ (n : ℕ). take n s) (sub-zero e)
part_is (suc a) zero s = rw (zero-sub (suc a))
part_is (suc a) (suc e) [] = take-nil (suc e - suc a)
part_is (suc a) (suc e) (b ∷ s) = rw (suc-sub-suc e a) (part_is a e s)

-- ---- the first field and those after it, by the place of the first SP

pub first_is : (s : List ℕ) → first s ≡ take (before 32 s) s
unfolding first until
first_is [] = refl
first_is (b ∷ bs) = go (eqb b 32) (first_is bs)
  where
    go : (t : Bool) → first bs ≡ take (before 32 bs) bs → cond t [] (b ∷ first bs) ≡ take (cond t zero (suc (before 32 bs))) (b ∷ bs)
    go true e = refl
    go false e = ap (λ (l : List ℕ). b ∷ l) e

pub more_found : (s : List ℕ) → before 32 s < length s → more s ≡ fields (drop (suc (before 32 s)) s)
unfolding more until fields
more_found [] h = absurd (omega arith)
more_found (b ∷ bs) h = go (eqb b 32) h (λ k. more_found bs k)
  where
    go : (t : Bool) → cond t zero (suc (before 32 bs)) < suc (length bs) → (before 32 bs < length bs → more bs ≡ fields (drop (suc (before 32 bs)) bs)) → cond t (first bs ∷ more bs) (more bs) ≡ fields (drop (suc (cond t zero (suc (before 32 bs)))) (b ∷ bs))
    go true k e = refl
    go false k e = e (omega arith)

pub more_none : (s : List ℕ) → length s ≤ before 32 s → more s ≡ []
unfolding more until
more_none [] h = refl
more_none (b ∷ bs) h = go (eqb b 32) h (λ k. more_none bs k)
  where
    go : (t : Bool) → suc (length bs) ≤ cond t zero (suc (before 32 bs)) → (length bs ≤ before 32 bs → more bs ≡ []) → cond t (first bs ∷ more bs) (more bs) ≡ []
    go true k e = absurd (omega arith)
    go false k e = e (omega arith)

-- where the first field ends at e: it is the only one, or the rest is cut in the same way
module _ (s : List ℕ) (e : ℕ) (q : e ≡ 0 + before 32 s) where
  pub fields_first : fields s ≡ take e s ∷ more s
  unfolding fields
  fields_first =
      let k : before 32 s ≡ e = omega arith in
      rw (first_is s, k)

  pub fields_last : e ≡ length s → fields s ≡ s ∷ []
  unfolding fields
  fields_last h =
      let k : before 32 s ≡ length s = omega arith in
      rw (first_is s, k, take-length s, more_none s (omega arith))

  pub fields_only : e ≡ length s → fields s ≡ take e s ∷ []
  fields_only h = fields_last h ∙ rw (take_all e s (omega arith))

  pub fields_next : (e ≡ length s → ⊥) → fields s ≡ take e s ∷ fields (drop (e + 1) s)
  unfolding fields
  fields_next h =
      let k : before 32 s ≡ e = omega arith in
      let f : before 32 s < length s = lt_of_le-ne (until_within (λ b. eqb b 32) s) (λ z. h (omega arith)) in
      rw (first_is s, more_found s f, k, add-one e)

-- fields that are written with SP between them
pub fields_cons : (us vs : List ℕ) → Skips (λ b. eqb b 32) us → fields (us ++ (32 ∷ vs)) ≡ us ∷ fields vs
fields_cons us vs p =
    let s : List ℕ = us ++ (32 ∷ vs) in
    let e : length us ≡ 0 + before 32 s = omega (arith, skips_stop (λ b. eqb b 32) us 32 vs p refl) in
    fields_next s (length us) e (λ z. omega (arith, z, length-append us (32 ∷ vs)))
    ∙ rw (take-append_seam us (32 ∷ vs), drop-append-add us (32 ∷ vs) 1)

pub fields_one : (us : List ℕ) → Skips (λ b. eqb b 32) us → fields us ≡ us ∷ []
unfolding until
fields_one us p = fields_last us (length us) (omega (arith, p [], ap (before 32) (append-nil us))) refl
