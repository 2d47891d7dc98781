-- The sentences of request E1, each with a line and the slices that the rule must give on it (proved in proofs/Worked.antt).
-- Bytes are written in hexadecimal.
use Rattle.std.specs.Prelude.{ℕ, ◌≡◌, List, [], ◌∷◌, ◌++◌, map, replicate}
use Rattle.receiver.specs.Rule.{slices}

pub record Example : Type 0 where
  pub line : List ℕ
  pub gives : List (List ℕ)

-- a frame of four bytes
abbrev frame : List ℕ
frame = 0x02 ∷ 0x32 ∷ 0x03 ∷ 0x31 ∷ []

-- STX and n bytes more
abbrev run : ℕ → List ℕ
run n = 0x02 ∷ replicate n 0x41

unfoldable pub examples : List Example
examples =
    -- bytes before an STX are dropped, an ETX among them
    record { line = 0x41 ∷ 0x03 ∷ 0x42 ∷ frame; gives = frame ∷ [] }
    -- an STX seen before ETX begins the frame again
    ∷ record { line = 0x02 ∷ 0x31 ∷ frame; gives = frame ∷ [] }
    -- even as the 255th byte
    ∷ record { line = run 253 ++ frame; gives = frame ∷ [] }
    -- after ETX the next byte is the LRC, even if it is 02h or 03h, and ends the slice
    ∷ record {
      line = 0x02 ∷ 0x31 ∷ 0x03 ∷ 0x02 ∷ 0x02 ∷ 0x31 ∷ 0x03 ∷ 0x03 ∷ frame;
      gives = (0x02 ∷ 0x31 ∷ 0x03 ∷ 0x02 ∷ []) ∷ (0x02 ∷ 0x31 ∷ 0x03 ∷ 0x03 ∷ []) ∷ frame ∷ [];
    }
    -- also as the 255th byte
    ∷ record {
      line = run 252 ++ (0x03 ∷ 0x02 ∷ frame);
      gives = (run 252 ++ (0x03 ∷ 0x02 ∷ [])) ∷ frame ∷ [];
    }
    -- when 255 bytes stand and the slice is not finished, they are dropped and the next byte is hunted afresh
    ∷ record { line = run 254 ++ frame; gives = frame ∷ [] }
    -- an ETX as the 255th byte too
    ∷ record { line = run 253 ++ (0x03 ∷ frame); gives = frame ∷ [] }
    -- what follows is noise up to the next STX
    ∷ record { line = run 300 ++ (0x03 ∷ 0x41 ∷ frame); gives = frame ∷ [] }
    -- the shortest slice; a frame that is not finished gives none
    ∷ record { line = 0x02 ∷ 0x03 ∷ 0x41 ∷ 0x02 ∷ 0x31 ∷ []; gives = (0x02 ∷ 0x03 ∷ 0x41 ∷ []) ∷ [] }
    ∷ []

abbrev pub Worked : Type 0
Worked = map (λ e. slices e.line) examples ≡ map (λ e. e.gives) examples
