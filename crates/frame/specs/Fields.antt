-- The fields of a body (document 01, "The frame"): parted by one SP (20h) each.
use Rattle.std.specs.Prelude.{ℕ, zero, suc, Bool, false, cond, List, [], ◌∷◌, ◌++◌, eqb, length, drop, Option, None, Some, unwrap_or}

-- the bytes before the first SP
unfoldable pub first : List ℕ → List ℕ
first [] = []
first (b ∷ bs) = cond (eqb b 32) [] (b ∷ first bs)

-- the fields after the first SP
unfoldable pub more : List ℕ → List (List ℕ)
more [] = []
more (b ∷ bs) = cond (eqb b 32) (first bs ∷ more bs) (more bs)

-- the fields of a body
unfoldable pub fields : List ℕ → List (List ℕ)
fields s = first s ∷ more s

-- a field and the position of its first byte; an empty field stands at the byte that ends it
pub record Placed : Type 0 where
  pub position : ℕ
  pub text : List ℕ

-- the fields after the first SP of a text that stands at a position
unfoldable pub placed_more : ℕ → List ℕ → List Placed
placed_more at [] = []
placed_more at (b ∷ bs) =
    cond (eqb b 32)
    (record { position = suc at; text = first bs } ∷ placed_more (suc at) bs)
    (placed_more (suc at) bs)

-- the fields of a text that stands at a position
unfoldable pub placed : ℕ → List ℕ → List Placed
placed at s = record { position = at; text = first s } ∷ placed_more at s

-- ---- fields read as values of one type

abbrev pub with_first : {A : Type 0} → Option A → Option (List A) → Option (List A)
with_first (Some v) (Some vs) = Some (v ∷ vs)
with_first (Some v) None = None
with_first None vs = None

-- n fields: no fewer and no more, and none malformed
unfoldable pub read_fields : {A : Type 0} → (List ℕ → Option A) → ℕ → List (List ℕ) → Option (List A)
read_fields read zero [] = Some []
read_fields read zero (f ∷ fs) = None
read_fields read (suc n) [] = None
read_fields read (suc n) (f ∷ fs) = with_first (read f) (read_fields read n fs)

-- what was read passes a test
abbrev pub reads_as : {A : Type 0} → (A → Bool) → Option A → Bool
reads_as test (Some v) = test v
reads_as test None = false

-- ---- fields written

-- each text after one SP
abbrev pub following : List (List ℕ) → List ℕ
following [] = []
following (t ∷ ts) = 32 ∷ (t ++ following ts)

-- texts with one SP between each two
abbrev pub spaced : List (List ℕ) → List ℕ
spaced [] = []
spaced (t ∷ ts) = t ++ following ts

-- ---- which field offends (document 02, E9)

-- where the first field stands that fails its test, of those that have one
abbrev pub first_failing : List (List ℕ → Bool) → List Placed → Option ℕ
first_failing [] fs = None
first_failing (t ∷ ts) [] = None
first_failing (t ∷ ts) (f ∷ fs) = cond (t f.text) (first_failing ts fs) (Some f.position)

-- where the first of these fields stands; ETX where there is none
abbrev pub start_of : ℕ → List Placed → ℕ
start_of etx [] = etx
start_of etx (f ∷ fs) = f.position

-- the first field that fails its test; if none does, the first surplus field, or ETX where fields lack
unfoldable pub offending : ℕ → List (List ℕ → Bool) → List Placed → ℕ
offending etx ts fs = unwrap_or (first_failing ts fs) (start_of etx (drop (length ts) fs))
