-- Frames that are written read back.
use Rattle.std.specs.Prelude.{ℕ, ◌≤◌, ◌≡◌, List, length}
use Rattle.frame.specs.Frame.{Printable, read_frame, frame_of}

-- the frame of a station from 1 to 99 and a printable body is accepted, with that station and that body,
-- where its length is one that a frame may have
abbrev pub FramesReadBack : Type 0
FramesReadBack =
    (station : ℕ) (body : List ℕ)
    → 1 ≤ station → station ≤ 99
    → Printable body
    → 6 ≤ length (frame_of station body) → length (frame_of station body) ≤ 255
    → read_frame (frame_of station body) ≡ record { number = 0; station = station; body = body }
