-- The slices of a line of loose bytes (document 02, E1): the rule byte by byte, and the slices that it gives on a whole line.
use Rattle.std.specs.Prelude.{ℕ, ◌-◌, Bool, true, false, cond, List, [], ◌∷◌, ◌++◌, eqb, ltb, length, get_or}

-- What a byte is to the bytes held of a frame that is not finished. dropped: noise, or the 255th byte of a frame without an
-- end; nothing is held then. begun: STX, which begins the frame, even again. added: a byte of the frame. finished: the LRC
pub data Effect : Type 0 where
  dropped : Effect
  begun : Effect
  added : Effect
  finished : Effect

-- the bytes held end with ETX
unfoldable pub ended : List ℕ → Bool
ended held = eqb (get_or held (length held - 1) 0) 3

-- after ETX the byte is the LRC, whatever it is; else STX begins the frame; else the byte is noise where nothing is held, and
-- part of the frame while that has fewer than 255 bytes with it
unfoldable pub effect : List ℕ → ℕ → Effect
effect held b =
    cond (ended held) finished
    (cond (eqb b 2) begun
    (cond (eqb (length held) 0) dropped
    (cond (ltb (length held) 254) added dropped)))

-- the bytes held after it
abbrev pub held_after : Effect → List ℕ → ℕ → List ℕ
held_after dropped held b = []
held_after begun held b = b ∷ []
held_after added held b = held ++ (b ∷ [])
held_after finished held b = []

-- the byte ends a slice
abbrev pub ends : Effect → Bool
ends dropped = false
ends begun = false
ends added = false
ends finished = true

-- the slice that it ends, if any
abbrev pub given : Effect → List ℕ → ℕ → List (List ℕ)
given e held b = cond (ends e) ((held ++ (b ∷ [])) ∷ []) []

-- the bytes held after the bytes of a line, with some held before
unfoldable pub held_from : List ℕ → List ℕ → List ℕ
held_from held [] = held
held_from held (b ∷ bs) = held_from (held_after (effect held b) held b) bs

-- the slices that the bytes of a line give, with some held before
unfoldable pub slices_from : List ℕ → List ℕ → List (List ℕ)
slices_from held [] = []
slices_from held (b ∷ bs) = given (effect held b) held b ++ slices_from (held_after (effect held b) held b) bs

-- the slices of a whole line, and what is held at its end
abbrev pub slices : List ℕ → List (List ℕ)
slices line = slices_from [] line

abbrev pub held_at_end : List ℕ → List ℕ
held_at_end line = held_from [] line
