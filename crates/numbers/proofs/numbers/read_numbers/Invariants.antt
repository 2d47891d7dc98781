-- The invariant: the fields that are left, read into the array as it is now from value i on, give what all of them give.
use Prim.Native.Nat.{ℕ, zero, suc, ◌+◌, ◌-◌, ◌≤◌, ◌<◌}
use mathlib.Core.Path.{◌≡◌, refl, sym, ◌∙◌}
use mathlib.Core.Bool.{Bool, true}
use mathlib.Core.List.{List, [], ◌∷◌, map}
use Rattle.std.specs.Prelude.{Option, None, Some, Ok, Err}
use native.Mathlib.Omega.{arith}
use native.Mathlib.Numerals.{add-one}
use lib.IntN.{ℤ}
use lib.ListN.{length, set, replicate}
use lib.Seq.{sets}
use Rattle.text.specs.Read.{Read, malformed, read_at}
use Rattle.text.specs.Scan.{field_at, end_at}
use Rattle.frame.specs.Fields.{Placed, offending, with_first, read_fields, reads_as}
use Rattle.frame.proofs.Placed.{offending_none, offending_lack, offending_next}
use Rattle.frame.proofs.Spaced.{left, none_left, next_left}
use Rattle.commands.specs.declared.table.Kind.{Kind}
use Rattle.commands.specs.declared.request.Row.{Row}
use Rattle.commands.specs.Request.{row_of}
use Rattle.numbers.specs.Numbers.{read_field, numbers_at}
use Rattle.numbers.proofs.numbers.read_numbers.Given as goal

-- ---- values read into an array from index i on

unfoldable pub filled : List ℤ → ℕ → Option (List ℤ) → Option Row
filled xs i (Some vs) = Some (row_of (sets xs i vs))
filled xs i None = None

pub one_filled : (xs : List ℤ) (i : ℕ) (v : ℤ) (o : Option (List ℤ)) → filled xs i (with_first (Some v) o) ≡ filled (set xs i v) (i + 1) o
unfolding filled
one_filled xs i v (Some vs) = rw (add-one i)
one_filled xs i v None = refl

-- ---- the answer for m values that are still to be read, into xs from index i on

module _ (etx : ℕ) (k : Kind) where
  unfoldable pub form : List ℕ → Bool
  form f = reads_as (λ v. true) (read_field k f)

  unfoldable pub answer : List ℤ → ℕ → ℕ → List Placed → Read Row
  answer xs i m fs = read_at (offending etx (replicate m form) fs) (filled xs i (read_fields (read_field k) m (map (λ f. f.text) fs)))

  module _ (xs : List ℤ) (i : ℕ) where
    lack : (m : ℕ) → answer xs i (suc m) [] ≡ Err (malformed etx)
    unfolding answer read_fields filled
    lack m = rw (offending_lack etx form (replicate m form))

    surplus : (f : Placed) (fs : List Placed) → answer xs i zero (f ∷ fs) ≡ Err (malformed f.position)
    unfolding answer read_fields filled
    surplus f fs = rw (offending_none etx (f ∷ fs))

    complete : answer xs i zero [] ≡ Ok (row_of xs)
    unfolding answer read_fields filled
    complete = refl

    module _ (m : ℕ) (f : Placed) (fs : List Placed) where
      wrong : read_field k f.text ≡ None → answer xs i (suc m) (f ∷ fs) ≡ Err (malformed f.position)
      unfolding answer read_fields filled form
      wrong e = rw (offending_next etx form (replicate m form) f fs, e)

      valued : {v : ℤ} → read_field k f.text ≡ Some v → answer xs i (suc m) (f ∷ fs) ≡ answer (set xs i v) (i + 1) m fs
      unfolding answer read_fields form
      valued {v} e = rw (offending_next etx form (replicate m form) f fs, e, one_filled xs i v)

-- ---- the loop

-- of n values i are read into xs, and the next field starts at p
pub record Begun (k : Kind) (s : List ℕ) (from n : ℕ) (xs : List ℤ) (i p : ℕ) : Type 0 where
  pub rest : numbers_at k s from ≡ answer (length s) k xs i (n - i) (left s p)

module _ {k : Kind} {s : List ℕ} {from n : ℕ} {xs : List ℤ} {i p : ℕ} (h : Begun k s from n xs i p) where
  -- the next field
  next : Placed
  next = record { position = p; text = field_at s p }

  module _ (l : i < n) where
    again : numbers_at k s from ≡ answer (length s) k xs i (suc (n - (i + 1))) (left s p)
    again = let e : n - i ≡ suc (n - (i + 1)) = omega arith in h.rest ∙ rw e

    pub lacking : length s < p → Err (malformed (length s)) ≡ numbers_at k s from
    lacking m = sym (again ∙ rw (none_left s p m) (lack (length s) k xs i (n - (i + 1))))

    module _ (m : p ≤ length s) where
      pub unread : read_field k (field_at s p) ≡ None → Err (malformed p) ≡ numbers_at k s from
      unfolding next
      unread e = sym (again ∙ rw (next_left s p m) (wrong (length s) k xs i (n - (i + 1)) next (left s (end_at s p + 1)) e))

      pub read : {v : ℤ} → read_field k (field_at s p) ≡ Some v → numbers_at k s from ≡ answer (length s) k (set xs i v) (i + 1) (n - (i + 1)) (left s (end_at s p + 1))
      unfolding next
      read e = again ∙ rw (next_left s p m) (valued (length s) k xs i (n - (i + 1)) next (left s (end_at s p + 1)) e)

  module _ (l : n ≤ i) where
    done : numbers_at k s from ≡ answer (length s) k xs i 0 (left s p)
    done = let e : n - i ≡ 0 = omega arith in h.rest ∙ rw e

    pub too_many : p ≤ length s → Err (malformed p) ≡ numbers_at k s from
    unfolding next
    too_many m = sym (done ∙ rw (next_left s p m) (surplus (length s) k xs i next (left s (end_at s p + 1))))

    pub all_read : length s < p → Ok (row_of xs) ≡ numbers_at k s from
    all_read m = sym (done ∙ rw (none_left s p m) (complete (length s) k xs i))

abbrev pub invariant-loop-i : goal.invariant-loop-i
invariant-loop-i l = Begun l.kind l.text l.from.index l.i-end l.values l.i l.next
