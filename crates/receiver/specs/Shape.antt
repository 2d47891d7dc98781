-- What holds of slices handed out, and that a sound frame is (proved in proofs/Shape.antt and proofs/Found.antt).
use Rattle.std.specs.Prelude.{ℕ, ◌-◌, ◌≤◌, ◌≡◌, List, [], ◌∷◌, ◌++◌, length, get_or}
use Rattle.frame.specs.Frame.{read_frame}
use Rattle.receiver.specs.Rule.{slices, held_at_end}
use Rattle.receiver.specs.Line.{Made, History, handed, line}

-- 3 to 255 bytes, the first of them STX, the last but one ETX
pub record Shaped (s : List ℕ) : Type 0 where
  pub low : 3 ≤ length s
  pub high : length s ≤ 255
  pub starts : get_or s 0 0 ≡ 2
  pub ends : get_or s (length s - 2) 0 ≡ 3

-- each of them
abbrev pub Each : (List ℕ → Type 0) → List (List ℕ) → Type 0
Each P [] = Unit
Each P (s ∷ ss) = P s × Each P ss

-- every slice handed out, from fresh state
abbrev pub HandedShaped : Type 0
HandedShaped = (m : List ℕ) (cs : List Made) → History m 0 cs → Each Shaped (handed cs)

-- such a slice may be refused with 2 LENGTH, and never with 3 START or 4 END
abbrev pub ShapedRefusals : Type 0
ShapedRefusals = (s : List ℕ) → Shaped s → ((read_frame s).number ≡ 3 → ⊥) × ((read_frame s).number ≡ 4 → ⊥)

-- no byte is STX; an ETX among noise is noise
abbrev pub Noise : List ℕ → Type 0
Noise [] = Unit
Noise (b ∷ bs) = (b ≡ 2 → ⊥) × Noise bs

-- where nothing is held, as before any slice and after one that was dropped or finished, the next sound frame, after noise or
-- none, is the next slice that is handed out, as it stands
abbrev pub SoundFound : Type 0
SoundFound =
    (m : List ℕ) (cs : List Made) (before noise frame rest : List ℕ)
    → History m 0 cs
    → line cs ≡ before ++ (noise ++ (frame ++ rest))
    → held_at_end before ≡ []
    → Noise noise
    → (read_frame frame).number ≡ 0
    → handed cs ≡ slices before ++ (frame ∷ slices rest)
