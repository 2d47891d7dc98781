-- What is held of a line, its first 513 bytes, reads as the line, and what is written reads back as itself (proved in proofs/Back.antt).
use Rattle.std.specs.Prelude.{ℕ, ◌≤◌, ◌<◌, ◌≡◌, true, List, [], ◌∷◌, length, take}
use Rattle.lines.specs.Lines.{is_call, slice_of, hex_text}

-- reading the first 513 bytes of a line is reading the line
abbrev pub HeldReadsSame : Type 0
HeldReadsSame = (s : List ℕ) → (is_call (take 513 s) ≡ is_call s) × (is_call s ≡ true → slice_of (take 513 s) ≡ slice_of s)

abbrev pub Bytes : List ℕ → Type 0
Bytes [] = Unit
Bytes (b ∷ bs) = (b < 256) × Bytes bs

-- up to 256 bytes in hexadecimal capitals are a call, and spell those bytes
abbrev pub HexReadsBack : Type 0
HexReadsBack = (bs : List ℕ) → Bytes bs → length bs ≤ 256 → (is_call (hex_text bs) ≡ true) × (slice_of (hex_text bs) ≡ bs)
