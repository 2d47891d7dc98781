-- Frames of short bodies: they are accepted, and fit in the area that a writer asks for.
use Prim.Native.Nat.{ℕ, ◌≤◌}
use mathlib.Core.Path.{◌≡◌}
use mathlib.Core.List.{List}
use native.Mathlib.Omega.{arith}
use lib.ListN.{length}
use Rattle.text.proofs.Laws.{Skips}
use Rattle.text.proofs.Digits.{shortest_some, shortest_short}
use Rattle.frame.specs.Frame.{is_stray, read_frame, frame_of}
use Rattle.frame.proofs.Writing.{frame_length}
use Rattle.frame.proofs.Reading.{frame_reads_back}

-- a frame of a short body with no stray byte is accepted
pub frame_back : (st : ℕ) (body : List ℕ) → 1 ≤ st → st ≤ 99 → Skips is_stray body → 1 ≤ length body → length body ≤ 99 → read_frame (frame_of st body) ≡ record { number = 0; station = st; body = body }
frame_back st body h k p low high =
    frame_reads_back st body h k p
    (omega (arith, frame_length st body, shortest_some st))
    (omega (arith, frame_length st body, shortest_short st))

-- the frame of such a body fits
pub frame_fits : (station : ℕ) (body : List ℕ) → length body ≤ 56 → length (frame_of station body) ≤ 64
frame_fits station body h = omega (arith, frame_length station body, shortest_short station)
