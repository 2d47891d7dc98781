-- Texts (document 02, E3): 1 to 8 characters from 21h to 7Eh, packed into a number with the first in the lowest byte.
use Rattle.std.specs.Prelude.{ℕ, zero, suc, ◌+◌, ◌*◌, ◌/◌, ◌%◌, Bool, true, false, cond, ◌&&◌, List, [], ◌∷◌, leb, eqb, length, Option, None, Some}
use Rattle.steps.specs.declared.texts.Text.{Text}

abbrev pub is_char : ℕ → Bool
is_char b = leb 33 b && leb b 126

-- ---- the characters of a number

-- its bytes, lowest first, up to the first that is no character, and at most k
unfoldable pub chars_in : ℕ → ℕ → List ℕ
chars_in zero n = []
chars_in (suc k) n = cond (is_char (n % 256)) (n % 256 ∷ chars_in k (n / 256)) []

-- the characters of a typed text
abbrev pub chars_of : ℕ → List ℕ
chars_of n = chars_in 8 n

-- at most k characters, and then nothing but zeros
unfoldable pub only_chars : ℕ → ℕ → Bool
only_chars zero n = eqb n 0
only_chars (suc k) n = cond (eqb n 0) true (cond (is_char (n % 256)) (only_chars k (n / 256)) false)

-- a typed text that is a text: 1 to 8 characters, and then nothing but zeros
unfoldable pub is_text : ℕ → Bool
is_text n = cond (eqb n 0) false (only_chars 8 n)

-- ---- a field as a text

unfoldable pub all_chars : List ℕ → Bool
all_chars [] = true
all_chars (b ∷ bs) = cond (is_char b) (all_chars bs) false

unfoldable pub pack : List ℕ → ℕ
pack [] = 0
pack (b ∷ bs) = pack bs * 256 + b

abbrev pub text : ℕ → Text
text n = record { 0 = n }

-- 1 to 8 characters are a text; none for a field in another form
unfoldable pub read_text : List ℕ → Option Text
read_text s = cond (leb 1 (length s) && leb (length s) 8) (cond (all_chars s) (Some (text (pack s))) None) None
