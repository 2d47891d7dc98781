-- Whole numbers as text (document 01, "Numbers as text").
use Rattle.std.specs.Prelude.{ℕ, zero, suc, ◌+◌, ◌-◌, ◌*◌, ◌/◌, ◌%◌, Bool, cond, ◌&&◌, List, [], ◌∷◌, ◌++◌, length, ltb, leb, Option, None, Some}

-- "0" to "9"
abbrev pub is_digit : ℕ → Bool
is_digit b = leb 48 b && leb b 57

-- the digits read onto n
unfoldable pub digits_onto : ℕ → List ℕ → Option ℕ
digits_onto n [] = Some n
digits_onto n (b ∷ bs) = cond (is_digit b) (digits_onto (n * 10 + (b - 48)) bs) None

-- 1 to 4 digits, leading zeros allowed, no sign; none for any other text
unfoldable pub read_whole : List ℕ → Option ℕ
read_whole s = cond (leb 1 (length s) && leb (length s) 4) (digits_onto 0 s) None

-- how many digits a text starts with, of its first k bytes
unfoldable pub digit_count : ℕ → List ℕ → ℕ
digit_count zero s = zero
digit_count (suc k) [] = zero
digit_count (suc k) (b ∷ bs) = cond (is_digit b) (suc (digit_count k bs)) zero

-- those digits, read onto n
unfoldable pub digit_value : ℕ → ℕ → List ℕ → ℕ
digit_value zero n s = n
digit_value (suc k) n [] = n
digit_value (suc k) n (b ∷ bs) = cond (is_digit b) (digit_value k (n * 10 + (b - 48)) bs) n

-- the digit of v that counts units of u
unfoldable pub digit : ℕ → ℕ → List ℕ
digit u v = (v / u % 10 + 48) ∷ []

-- that digit, or nothing where v is below u
unfoldable pub leading : ℕ → ℕ → List ℕ
leading u v = cond (ltb v u) [] (digit u v)

-- v below 10000, written shortest
unfoldable pub shortest : ℕ → List ℕ
shortest v = leading 1000 v ++ (leading 100 v ++ (leading 10 v ++ digit 1 v))

-- v below 100, always with 2 digits
abbrev pub two_digits : ℕ → List ℕ
two_digits v = digit 10 v ++ digit 1 v

-- v below 10000, always with 4 digits
unfoldable pub padded : ℕ → List ℕ
padded v = digit 1000 v ++ (digit 100 v ++ two_digits v)
