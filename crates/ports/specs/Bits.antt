-- A byte and its bits (document 01, "Commands"): a port's value is the sum of 2^b over the bits that are on.
use Rattle.std.specs.Prelude.{ℕ, ◌+◌, ◌-◌, ◌*◌, ◌/◌, ◌%◌, ◌^◌, ◌<◌, ◌≡◌}

-- bit k of a byte
abbrev pub bit : ℕ → ℕ → ℕ
bit b k = b / 2 ^ k % 2

-- the byte with v for its bit k
abbrev pub with_bit : ℕ → ℕ → ℕ → ℕ
with_bit b k v = b - bit b k * 2 ^ k + v * 2 ^ k

-- ---- what these must meet (proved in proofs/Bits.antt)

-- a bit that is stored is read
abbrev pub BitStored : Type 0
BitStored = (b k v : ℕ) → b < 256 → k < 8 → v < 2 → bit (with_bit b k v) k ≡ v

-- no other bit changes
abbrev pub OtherBitsKept : Type 0
OtherBitsKept = (b k v j : ℕ) → b < 256 → k < 8 → v < 2 → j < 8 → (j ≡ k → ⊥) → bit (with_bit b k v) j ≡ bit b j

-- a byte is the sum of 2^b over its bits that are on
abbrev pub sum : ℕ → ℕ
sum b = bit b 0 * 1 + bit b 1 * 2 + bit b 2 * 4 + bit b 3 * 8 + bit b 4 * 16 + bit b 5 * 32 + bit b 6 * 64 + bit b 7 * 128

abbrev pub PortIsSum : Type 0
PortIsSum = (b : ℕ) → b < 256 → b ≡ sum b
