-- A line of `cell` and the line of its answer (document 01, "Checked examples").
use Rattle.std.specs.Prelude.{ℕ, ◌+◌, ◌-◌, ◌*◌, ◌/◌, ◌%◌, Bool, true, cond, ◌&&◌, List, [], ◌∷◌, ◌++◌, length, ltb, leb, eqb, Option, None, Some}
use Rattle.std.proofs.lemmas.List.Edits.{sets}
use Rattle.text.specs.Whole.{two_digits}

-- ---- reading

-- the value of a hexadecimal capital, "0" to "9" or "A" to "F"; 16 for any other character
unfoldable pub value : ℕ → ℕ
value b = cond (leb 48 b && leb b 57) (b - 48) (cond (leb 65 b && leb b 70) (b - 55) 16)

-- there is no other character
unfoldable pub all_capitals : List ℕ → Bool
all_capitals [] = true
all_capitals (b ∷ bs) = ltb (value b) 16 && all_capitals bs

-- no other character, no odd count, no more than 512 digits
unfoldable pub is_call : List ℕ → Bool
is_call s = leb (length s) 512 && (eqb (length s % 2) 0 && all_capitals s)

-- the bytes that a line spells, two digits each
unfoldable pub slice_of : List ℕ → List ℕ
slice_of [] = []
slice_of (h ∷ []) = []
slice_of (h ∷ l ∷ s) = (value h * 16 + value l) ∷ slice_of s

-- how many bytes the slice of a line has; None where the line is no call
unfoldable pub line_of : List ℕ → Option ℕ
line_of s = cond (is_call s) (Some (length (slice_of s))) None

-- the lent bytes xs after reading: the slice at their front, or as they were where the line is no call
unfoldable pub held_after : List ℕ → List ℕ → List ℕ
held_after xs s = cond (is_call s) (sets xs 0 (slice_of s)) xs

-- ---- writing

-- the hexadecimal capital of d below 16
unfoldable pub capital : ℕ → ℕ
capital d = cond (ltb d 10) (d + 48) (d + 55)

-- bytes in hexadecimal capitals, two digits each
unfoldable pub hex_text : List ℕ → List ℕ
hex_text [] = []
hex_text (b ∷ bs) = capital (b / 16) ∷ capital (b % 16) ∷ hex_text bs

-- if there is a reply, one space and its bytes
unfoldable pub reply_text : List ℕ → List ℕ
reply_text [] = []
reply_text (b ∷ bs) = 32 ∷ hex_text (b ∷ bs)

-- the number with two digits, the reply, LF
unfoldable pub answer_line : ℕ → List ℕ → List ℕ
answer_line number reply = two_digits number ++ (reply_text reply ++ (10 ∷ []))

-- "--", LF
abbrev pub no_call_line : List ℕ
no_call_line = 45 ∷ 45 ∷ 10 ∷ []
