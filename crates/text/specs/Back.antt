-- What is written reads back as itself (proved in proofs/Back.antt).
use Rattle.std.specs.Prelude.{ℕ, ◌<◌, ◌≡◌, ℤ, nat_abs, Some}
use Rattle.text.specs.Whole.{read_whole, shortest, padded}
use Rattle.text.specs.Hundredths.{read_hundredths, hundredths_text}

-- 0..9999, written shortest
abbrev pub ShortestReadsBack : Type 0
ShortestReadsBack = (v : ℕ) → v < 10000 → read_whole (shortest v) ≡ Some v

-- 0..9999, written with 4 digits
abbrev pub PaddedReadsBack : Type 0
PaddedReadsBack = (v : ℕ) → v < 10000 → read_whole (padded v) ≡ Some v

-- -999999..999999 hundredths
abbrev pub HundredthsReadBack : Type 0
HundredthsReadBack = (z : ℤ) → nat_abs z < 1000000 → read_hundredths (hundredths_text z) ≡ Some z
