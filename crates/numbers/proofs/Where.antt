-- Where data out of range stand: at the first field. A row that was read is in range, since 4 digits and two decimals are
-- at most 9999.99, and every other kind has one field.
use Prim.Native.Nat.{ℕ, zero, suc}
use mathlib.Core.Path.{◌≡◌, refl, sym, subst, ◌∙◌}
use mathlib.Core.Bool.{Bool, true, false, cond}
use mathlib.Core.List.{List, [], ◌∷◌, map}
use Rattle.std.specs.Prelude.{Option, None, Some, option_map}
use Rattle.std.proofs.lemmas.Option.{none-some}
use native.Mathlib.Omega.{arith}
use borrow.Author.Tests.{le-ltb}
use lib.Dec.{eqb}
use lib.IntN.{ℤ, pos}
use lib.ListN.{get_or, drop}
use Rattle.text.specs.Hundredths.{Small, magnitude, signed, read_hundredths}
use Rattle.text.proofs.Decimals.{magnitude_small}
use Rattle.frame.specs.Fields.{Placed, start_of, offending, with_first, read_fields, reads_as}
use Rattle.frame.proofs.Placed.{offending_next}
use Rattle.frame.proofs.Spaced.{Each, fields_each}
use Rattle.commands.specs.declared.table.Kind.{Kind}
use Rattle.commands.specs.declared.table.Kind.TheVariants as kind
use Rattle.commands.specs.declared.request.Row.{Row}
use Rattle.commands.specs.Request.{row_of, one}
use Rattle.numbers.specs.Ranges.{count_of, in_range, each_in_range, all_in_range}
use Rattle.numbers.specs.Numbers.{read_field, read_numbers, number_ranges}
use Rattle.numbers.proofs.Bounds.{zero_in, one_in}

pub no_some : {A B : Type 0} {v : A} → None ≡ Some v → B
no_some {v = v} e = absurd (none-some v e)

-- ---- rows

abbrev ValueIn : Option ℤ → Type 0
ValueIn (Some v) = in_range kind.Row v ≡ true
ValueIn None = Unit

signed_in : (t : Bool) (m : Option ℕ) → Small m → ValueIn (option_map (signed t) m)
unfolding in_range
signed_in true (Some zero) s = refl
signed_in true (Some (suc m)) s = rw (le-ltb 999998 m (omega arith))
signed_in false (Some m) s = rw (le-ltb 999999 m (omega arith))
signed_in true None s = tt
signed_in false None s = tt

hundredths_in : (s : List ℕ) → ValueIn (read_hundredths s)
unfolding read_hundredths
hundredths_in s = go (eqb (get_or s 0 0) 45)
  where
    go : (t : Bool) → ValueIn (cond t (option_map (signed true) (magnitude (drop 1 s))) (option_map (signed false) (magnitude s)))
    go true = signed_in true (magnitude (drop 1 s)) (magnitude_small (drop 1 s))
    go false = signed_in false (magnitude s) (magnitude_small s)

-- a place that is not given is 0, which is in range
each_at : (i : ℕ) (vs : List ℤ) → Each (λ v. in_range kind.Row v ≡ true) vs → in_range kind.Row (get_or vs i (pos 0)) ≡ true
each_at zero [] a = zero_in kind.Row
each_at (suc i) [] a = zero_in kind.Row
each_at zero (v ∷ vs) a = a.0
each_at (suc i) (v ∷ vs) a = each_at i vs a.1

row_in : (fs : List (List ℕ)) {r : Row} → read_numbers kind.Row fs ≡ Some r → all_in_range kind.Row r ≡ true
unfolding all_in_range each_in_range
row_in fs {r} e = go (read_fields (read_field kind.Row) 4 fs) refl e
  where
    go : (o : Option (List ℤ)) → read_fields (read_field kind.Row) 4 fs ≡ o → option_map row_of o ≡ Some r → all_in_range kind.Row r ≡ true
    go None q e = no_some e
    go (Some vs) q e =
        let a = (fields_each (λ v. in_range kind.Row v ≡ true) read_hundredths (λ f v e. rw e at (hundredths_in f)) 4 fs vs q).0 in
        let d : row_of vs ≡ r = cc in
        rw (← d, each_at 0 vs a, each_at 1 vs a, each_at 2 vs a, each_at 3 vs a)

pub false_true : {A : Type 0} → false ≡ true → A
false_true e = absurd (subst (λ (t : Bool). cond t ⊥ Unit) e tt)

-- ---- the other kinds

module _ (etx : ℕ) (k : Kind) {r : Row} (n : count_of k ≡ 1) (z : all_in_range k r ≡ false) where
  single : (fs : List Placed) → read_numbers k (map (λ f. f.text) fs) ≡ Some r → offending etx (number_ranges k) fs ≡ start_of etx fs
  unfolding read_fields
  single [] e = no_some (rw n at e)
  single (f ∷ g ∷ fs) e = go (read_field k f.text) (rw n at e)
    where
      go : {A : Type 0} (o : Option ℤ) → option_map row_of (with_first o None) ≡ Some r → A
      go (Some v) d = no_some d
      go None d = no_some d
  single (f ∷ []) e = rw (n, offending_next etx (λ s. reads_as (in_range k) (read_field k s)) [] f []) (go (read_field k f.text) (rw n at e))
    where
      value : (v : ℤ) (t : Bool) → in_range k v ≡ t → one v ≡ r → cond t (offending etx [] []) f.position ≡ f.position
      value v true q d = false_true (sym z ∙ rw (← d) (one_in k v q))
      value v false q d = refl

      go : (o : Option ℤ) → option_map row_of (with_first o (Some [])) ≡ Some r → cond (reads_as (in_range k) o) (offending etx [] []) f.position ≡ f.position
      go (Some v) d = value v (in_range k v) refl cc
      go None d = no_some d

-- ---- the statement

pub numbers_out : (etx : ℕ) (k : Kind) (fs : List Placed) {r : Row} → read_numbers k (map (λ f. f.text) fs) ≡ Some r → all_in_range k r ≡ false → offending etx (number_ranges k) fs ≡ start_of etx fs
numbers_out etx kind.Timer fs e z = single etx kind.Timer refl z fs e
numbers_out etx kind.Register fs e z = single etx kind.Register refl z fs e
numbers_out etx kind.Row fs e z = false_true (sym z ∙ row_in (map (λ f. f.text) fs) e)
numbers_out etx kind.Signal fs e z = single etx kind.Signal refl z fs e
numbers_out etx kind.Port fs e z = single etx kind.Port refl z fs e
