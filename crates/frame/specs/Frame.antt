-- Frames, read and written (document 01, "The frame" and refusals 2 to 7).
use Rattle.std.specs.Prelude.{ℕ, suc, ◌+◌, ◌-◌, ◌≤◌, ◌<◌, ◌≡◌, Bool, cond, not, ◌||◌, List, [], ◌∷◌, ◌++◌, length, get_or, take, drop, ltb, eqb, Option, Some, None, Result, Ok, Err}
use Rattle.refusals.specs.declared.refusal.Refused.{Refused}
use Rattle.refusals.specs.Refusal.{number_of}
use Rattle.frame.specs.declared.reader.Frame.{Frame}
use Rattle.std.proofs.Math.Seq.{slice}
use Rattle.text.specs.Scan.{until, before}
use Rattle.text.specs.Whole.{read_whole, shortest}
use Rattle.frame.specs.Checksum.{lrc_of}

-- what the frame reader hands back
pub record Reading : Type 0 where
  pub number : ℕ
  pub station : ℕ
  pub body : List ℕ

-- a refusal hands back station 0 and an empty part
abbrev pub refused_frame : ℕ → Reading
refused_frame n = record { number = n; station = 0; body = [] }

-- what the reader's answer says: an accepted frame, or the number of its refusal
abbrev pub reading_of : Result Frame Refused → Reading
reading_of (Ok f) = record { number = 0; station = f.station; body = f.body.now }
reading_of (Err r) = record { number = number_of r.refusal; station = 0; body = [] }

-- a byte outside 20h..7Eh
abbrev pub is_stray : ℕ → Bool
is_stray b = ltb b 32 || ltb 126 b

-- the index of the first such byte; the length where there is none
abbrev pub stray : List ℕ → ℕ
stray = until is_stray

-- a number from 1 to 99, or 0
abbrev pub up_to99 : Option ℕ → ℕ
up_to99 (Some v) = cond (ltb 99 v) 0 v
up_to99 None = 0

-- the station that a text is: decimal, 1 to 99, with no leading zero; 0 where it is none
unfoldable pub station_of : List ℕ → ℕ
station_of t = cond (eqb (get_or t 0 0) 48) 0 (up_to99 (read_whole t))

-- the station that stands before the first SP; 0 where none does, or there is no SP
abbrev pub station_at : List ℕ → ℕ
station_at t = cond (eqb (before 32 t) (length t)) 0 (station_of (take (before 32 t) t))

-- that station was read: SP follows its one digit, or its two
pub record Station (t : List ℕ) (station : ℕ) : Type 0 where
  pub value_is : station ≡ station_at t
  pub one_digit : 0 < station → station < 10 → before 32 t ≡ 1
  pub two_digits : 10 ≤ station → before 32 t ≡ 2

-- the station was read: 0 is none
abbrev pub with_station : ℕ → List ℕ → Reading
with_station v body = cond (eqb v 0) (refused_frame 7) (record { number = 0; station = v; body = body })

-- between STX and ETX: 6 STRAY, 7 STATION
unfoldable pub read_inner : List ℕ → Reading
read_inner t =
    cond (ltb (stray t) (length t)) (refused_frame 6)
    (cond (eqb (before 32 t) (length t)) (refused_frame 7)
    (with_station (station_of (take (before 32 t) t)) (drop (before 32 t + 1) t)))

-- what stands between STX and ETX
abbrev pub inner : List ℕ → List ℕ
inner s = slice 1 (length s - 2) s

-- 2 LENGTH, 3 START, 4 END, 5 LRC, and then what stands between STX and ETX
unfoldable pub read_frame : List ℕ → Reading
read_frame s =
    cond (ltb (length s) 6 || ltb 255 (length s)) (refused_frame 2)
    (cond (not (eqb (get_or s 0 0) 2)) (refused_frame 3)
    (cond (not (eqb (get_or s (length s - 2) 0) 3)) (refused_frame 4)
    (cond (not (eqb (get_or s (length s - 1) 0) (lrc_of (slice 1 (length s - 1) s)))) (refused_frame 5)
    (read_inner (inner s)))))

-- where the body of an accepted frame starts
abbrev pub body_start : List ℕ → ℕ
body_start s = length s - 2 - length (read_frame s).body

-- document 02, E9: where a slice is wrong that reading a frame refuses with n: at the first stray byte for 6, at the
-- station for 7; 0 for any other number
unfoldable pub frame_position : List ℕ → ℕ → ℕ
frame_position s n = cond (eqb n 6) (suc (stray (inner s))) (cond (eqb n 7) 1 0)

-- STX, the station, SP
unfoldable pub opening : ℕ → List ℕ
opening station = 2 ∷ (shortest station ++ (32 ∷ []))

-- ETX and the LRC, after the bytes that follow STX
unfoldable pub closing : List ℕ → List ℕ
closing t = 3 ∷ lrc_of (t ++ (3 ∷ [])) ∷ []

-- the frame of a station and a body
unfoldable pub frame_of : ℕ → List ℕ → List ℕ
frame_of station body = opening station ++ (body ++ closing (shortest station ++ (32 ∷ body)))

-- every byte is one from 20h to 7Eh
abbrev pub Printable : List ℕ → Type 0
Printable [] = Unit
Printable (b ∷ bs) = ((32 ≤ b) × (b ≤ 126)) × Printable bs
