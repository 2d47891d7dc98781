-- The sentences of request E5, each with what both ports hold at each pick of a new box, and what is picked (proved in
-- proofs/Worked.antt).
use Rattle.std.specs.Prelude.{ℕ, ◌≡◌, List, [], ◌∷◌, map}
use Rattle.chooser.specs.Turn.{fresh, Buffers, buffers, Pick}
use Rattle.chooser.specs.Fair.{picks}

-- a port, and the bytes handed back
pub record Given : Type 0 where
  pub port : ℕ
  pub part : List ℕ

abbrev pub idle : Given
idle = record { port = 0; part = [] }

abbrev pub from_a : Given
from_a = record { port = 1; part = 7 ∷ 8 ∷ [] }

abbrev pub from_b : Given
from_b = record { port = 2; part = 9 ∷ [] }

pub record Example : Type 0 where
  pub held : List Buffers
  pub gives : List Given

-- two bytes of A's three and one of B's two, given the waiting lengths
abbrev pub waits : ℕ → ℕ → Buffers
waits n m = buffers (7 ∷ 8 ∷ 5 ∷ []) n (9 ∷ 6 ∷ []) m

abbrev pub both : Buffers
both = waits 2 1

abbrev pub examples : List Example
examples =
    -- both wait for ten picks
    record {
      held = both ∷ both ∷ both ∷ both ∷ both ∷ both ∷ both ∷ both ∷ both ∷ both ∷ [];
      gives = from_a ∷ from_b ∷ from_a ∷ from_b ∷ from_a ∷ from_b ∷ from_a ∷ from_b ∷ from_a ∷ from_b ∷ [];
    }
    -- only B waits for three picks, then both
    ∷ record {
      held = waits 0 1 ∷ waits 0 1 ∷ waits 0 1 ∷ both ∷ [];
      gives = from_b ∷ from_b ∷ from_b ∷ from_a ∷ [];
    }
    -- only A waits, then both
    ∷ record { held = waits 2 0 ∷ both ∷ []; gives = from_a ∷ from_b ∷ [] }
    -- a length one beyond the buffer: at A, at B, at both
    ∷ record { held = waits 4 1 ∷ waits 2 3 ∷ waits 4 3 ∷ []; gives = from_b ∷ from_a ∷ idle ∷ [] }
    -- nothing waits between two picks
    ∷ record { held = both ∷ waits 0 0 ∷ both ∷ []; gives = from_a ∷ idle ∷ from_b ∷ [] }
    ∷ record { held = waits 0 1 ∷ waits 0 0 ∷ both ∷ []; gives = from_b ∷ idle ∷ from_a ∷ [] }
    ∷ []

abbrev pub given : Pick → Given
given p = record { port = p.port; part = p.part }

abbrev pub Worked : Type 0
Worked = map (λ (e : Example). map given (picks fresh e.held)) examples ≡ map (λ (e : Example). e.gives) examples
