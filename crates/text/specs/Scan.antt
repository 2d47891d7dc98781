-- The index of the first byte of a given value, and the field that stands at an index.
use Rattle.std.specs.Prelude.{ℕ, zero, suc, ◌+◌, Bool, true, cond, List, [], ◌∷◌, eqb, take, drop}

-- how many bytes stand before the first that passes the test; all of them where none does
unfoldable pub until : (ℕ → Bool) → List ℕ → ℕ
until test [] = zero
until test (b ∷ bs) = cond (test b) zero (suc (until test bs))

-- how many bytes stand before the first a
abbrev pub before : ℕ → List ℕ → ℕ
before a = until (λ b. eqb b a)

-- where the field that starts at an index ends: at the next SP (20h), or at the text's end
abbrev pub end_at : List ℕ → ℕ → ℕ
end_at s i = i + before 32 (drop i s)

-- that field
abbrev pub field_at : List ℕ → ℕ → List ℕ
field_at s i = take (before 32 (drop i s)) (drop i s)

-- a text is empty, or its first byte is a
abbrev pub empty_or : ℕ → List ℕ → Bool
empty_or a [] = true
empty_or a (b ∷ bs) = eqb b a
