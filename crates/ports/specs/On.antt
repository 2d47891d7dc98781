-- How many signals of ports are on (document 02, E7), and the number kept of it.
use Rattle.std.specs.Prelude.{ℕ, zero, suc, ◌+◌, ◌-◌, ◌*◌, ◌%◌, ◌≤◌, ◌<◌, ◌≡◌, List, length, get_or, set}
use Rattle.std.specs.Int.Count.{ones}
use Rattle.ports.specs.Bits.{bit}

-- the ones counted over the first n ports
unfoldable pub signals_on : ℕ → List ℕ → ℕ
signals_on zero ports = 0
signals_on (suc n) ports = signals_on n ports + ones (get_or ports n 0)

-- the number kept, once a port has `after` for `before`: changed by the difference of their ones. It is kept modulo 2^16,
-- so that this has a meaning for every number that the memory may hold.
abbrev pub moved : ℕ → ℕ → ℕ → ℕ
moved total before after = (total + ones after + 65536 - ones before) % 65536

-- ---- what these must meet (proved in proofs/On.antt)

-- the ones of a byte are its bits that are on
abbrev pub bits_on : ℕ → ℕ
bits_on b = bit b 0 + bit b 1 + bit b 2 + bit b 3 + bit b 4 + bit b 5 + bit b 6 + bit b 7

abbrev pub OnesAreBits : Type 0
OnesAreBits = (b : ℕ) → b < 256 → ones b ≡ bits_on b

-- ports that hold bytes have at most eight signals on for each
abbrev pub EightAPort : Type 0
EightAPort = (n : ℕ) (ports : List ℕ) → ((i : ℕ) → get_or ports i 0 < 256) → signals_on n ports ≤ 8 * n

-- a number that was true before a port was written is true after it
abbrev pub MovedTrue : Type 0
MovedTrue =
    (n : ℕ) (ports : List ℕ) (p v : ℕ) → p < n → p < length ports → signals_on n (set ports p v) < 65536
    → moved (signals_on n ports) (get_or ports p 0) v ≡ signals_on n (set ports p v)
