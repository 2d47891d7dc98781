-- Hundredths as text (document 01, "Numbers as text"): the value is the whole number of hundredths.
use Rattle.std.specs.Prelude.{ℕ, suc, ◌+◌, ◌*◌, ◌/◌, ◌%◌, ◌<◌, Bool, true, false, cond, List, [], ◌∷◌, ◌++◌, length, get_or, take, drop, ℤ, pos, negsuc, neg_ℤ, ltb, eqb, Option, None, Some, option_map}
use Rattle.text.specs.Scan.{before}
use Rattle.text.specs.Whole.{read_whole, shortest, two_digits}

-- a whole number times k
abbrev pub times : ℕ → Option ℕ → Option ℕ
times k o = option_map (λ v. v * k) o

-- the digits after the point, in hundredths: 1 digit counts tenths, 2 count hundredths
unfoldable pub decimals : List ℕ → Option ℕ
decimals ds = cond (ltb 2 (length ds)) None (times (cond (eqb (length ds) 1) 10 1) (read_whole ds))

-- the whole part and the decimals together
abbrev pub joined : Option ℕ → Option ℕ → Option ℕ
joined (Some w) (Some d) = Some (w * 100 + d)
joined (Some w) None = None
joined None d = None

-- 1 to 4 digits, then nothing or "." with 1 or 2 digits
unfoldable pub magnitude : List ℕ → Option ℕ
magnitude s =
    joined (read_whole (take (before 46 s) s))
    (cond (eqb (before 46 s) (length s)) (Some 0) (decimals (drop (before 46 s + 1) s)))

-- what is read is at most 9999.99
abbrev pub Small : Option ℕ → Type 0
Small (Some m) = m < 1000000
Small None = Unit

-- with a minus sign or without; minus 0 is 0
abbrev pub signed : Bool → ℕ → ℤ
signed true m = neg_ℤ (pos m)
signed false m = pos m

-- an optional "-", then the magnitude
unfoldable pub read_hundredths : List ℕ → Option ℤ
read_hundredths s = cond (eqb (get_or s 0 0) 45) (option_map (signed true) (magnitude (drop 1 s))) (option_map (signed false) (magnitude s))

-- the shortest whole part, of at most 4 digits, and two decimals
unfoldable pub magnitude_text : ℕ → List ℕ
magnitude_text m = shortest (m / 100 % 10000) ++ (46 ∷ two_digits (m % 100))

-- "-" with a minus, nothing without one
unfoldable pub sign : Bool → List ℕ
sign true = 45 ∷ []
sign false = []

-- "-" only below zero
unfoldable pub hundredths_text : ℤ → List ℕ
hundredths_text (pos m) = magnitude_text m
hundredths_text (negsuc m) = 45 ∷ magnitude_text (suc m)
