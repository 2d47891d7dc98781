-- What a field is, by the answer for it, and the answer, by what the field is.
use Prim.Native.Nat.{ℕ}
use mathlib.Core.Path.{◌≡◌, refl, sym, ap}
use Rattle.std.specs.Prelude.{List, Option, None, Some, Ok, Err, option_map}
use Rattle.text.specs.declared.field.Field.{Field}
use Rattle.text.specs.declared.field.Malformed.{Malformed}
use Rattle.text.specs.Scan.{field_at, end_at}
use Rattle.text.specs.Read.{Read, malformed, read_at, field, field_with, read_field_at}

module _ {A : Type 0} where
  pub was_read : (at : ℕ) (o : Option A) {a : A} → Ok a ≡ read_at at o → o ≡ Some a
  was_read at (Some b) e = ap Some cc
  was_read at None e = cc

  pub was_wrong : (at : ℕ) (o : Option A) {m : Malformed} → Err m ≡ read_at at o → (o ≡ None) × (m ≡ malformed at)
  was_wrong at (Some b) e = cc
  was_wrong at None e = (refl, cc)

module _ {A : Type 0} (read : List ℕ → Option A) (s : List ℕ) (i : ℕ) where
  -- a field with its end: the value, and where it ends
  pub with_read : {f : Field A} → Some f ≡ field_with read s i → (read (field_at s i) ≡ Some f.value) × (f.end ≡ end_at s i)
  with_read {f} e = go (read (field_at s i)) e
    where
      go : (o : Option A) → Some f ≡ option_map (field (end_at s i)) o → (o ≡ Some f.value) × (f.end ≡ end_at s i)
      go (Some b) e = let q : f ≡ field (end_at s i) b = cc in (ap (λ g. Some g.value) (sym q), ap (λ g. g.end) q)
      go None e = cc

  pub with_none : ◌≡◌ {A = Option (Field A)} None (field_with read s i) → read (field_at s i) ≡ None
  with_none e = go (read (field_at s i)) e
    where
      go : (o : Option A) → ◌≡◌ {A = Option (Field A)} None (option_map (field (end_at s i)) o) → o ≡ None
      go (Some b) e = cc
      go None e = refl

  -- the same of an answer
  pub field_read : {f : Field A} → Ok f ≡ read_field_at read s i → (read (field_at s i) ≡ Some f.value) × (f.end ≡ end_at s i)
  field_read e = with_read (sym (was_read i (field_with read s i) e))

  pub field_wrong : {m : Malformed} → ◌≡◌ {A = Read (Field A)} (Err m) (read_field_at read s i) → (read (field_at s i) ≡ None) × (m ≡ malformed i)
  field_wrong e = let w = was_wrong i (field_with read s i) e in (with_none (sym w.0), w.1)

  -- and back
  pub value_with : {f : Field A} → read (field_at s i) ≡ Some f.value → f.end ≡ end_at s i → Some f ≡ field_with read s i
  value_with {f} e q = rw e (ap (λ (m : ℕ). Some (field m f.value)) q)

  pub none_with : read (field_at s i) ≡ None → ◌≡◌ {A = Option (Field A)} None (field_with read s i)
  none_with e = rw e

  pub value_at : {f : Field A} → read (field_at s i) ≡ Some f.value → f.end ≡ end_at s i → Ok f ≡ read_field_at read s i
  value_at e q = ap (read_at i) (value_with e q)

  pub wrong_at : read (field_at s i) ≡ None → ◌≡◌ {A = Read (Field A)} (Err (malformed i)) (read_field_at read s i)
  wrong_at e = ap (read_at i) (none_with e)
