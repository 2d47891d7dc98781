-- Where a refused slice is wrong (document 02, E9): what holds of the position, whatever the slice (proved in
-- proofs/Place.antt).
use Rattle.std.specs.Prelude.{ℕ, ◌-◌, ◌≤◌, ◌<◌, ◌≡◌, Bool, true, false, ◌&&◌, ◌||◌, List, ◌⊎◌, ltb, eqb, length, get_or}
use Rattle.frame.specs.Frame.{is_stray, read_frame, body_start, frame_position}
use Rattle.commands.specs.declared.request.Request.{Request}
use Rattle.harl.specs.Message.{judge_asked, read_request, read_reply}

-- the numbers that tell where: 6, 7, and 9 to 12
abbrev pub tells : ℕ → Bool
tells n = eqb n 6 || (eqb n 7 || (ltb 8 n && ltb n 13))

-- number n and position p of a slice
pub record Told (s : List ℕ) (n p : ℕ) : Type 0 where
  -- any other number has position 0
  pub silent : tells n ≡ false → p ≡ 0
  -- and each of these another
  pub positive : tells n ≡ true → 0 < p
  -- the position is one of the slice
  pub within : tells n ≡ true → p < length s
  -- 6: a stray byte stands there, and none between STX and it
  pub stray : n ≡ 6 → (is_stray (get_or s p 0) ≡ true) × ((i : ℕ) → 1 ≤ i → i < p → is_stray (get_or s i 0) ≡ false)
  -- 7: the station's first byte
  pub station : n ≡ 7 → p ≡ 1
  -- 9 to 12: not before the body
  pub body : 9 ≤ n → n ≤ 12 → body_start s ≤ p
  -- 9 to 12: ETX, or just after SP, where a field starts
  pub field : 9 ≤ n → n ≤ 12 → (p ≡ length s - 2) ⊎ (get_or s (p - 1) 0 ≡ 32)

-- of a slice read as a frame
abbrev pub FramesTold : Type 0
FramesTold = (s : List ℕ) → Told s (read_frame s).number (frame_position s (read_frame s).number)

-- as a request
abbrev pub RequestsTold : Type 0
RequestsTold = (s : List ℕ) → Told s (read_request s).number (read_request s).position

-- as a reply to an asked request, whose own refusals are not about the slice
pub record RepliesTold (s : List ℕ) (station : ℕ) (r : Request) : Type 0 where
  pub judged : judge_asked station r ≡ 0 → Told s (read_reply s station r).number (read_reply s station r).position
  pub refused : (judge_asked station r ≡ 0 → ⊥) → (read_reply s station r).position ≡ 0
