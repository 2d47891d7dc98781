-- The examples of document 01 that are marked P, and the longest messages: what is asked of the definitions, and what
-- they must give.
-- Bytes are written as the document prints them, in hexadecimal.
use Rattle.std.specs.Prelude.{ℕ, ◌≡◌, true, List, [], ◌∷◌, map, ℤ, pos, neg_ℤ, replicate, Option, None, Some}
use Rattle.text.specs.Hundredths.{read_hundredths, hundredths_text}
use Rattle.frame.specs.Checksum.{lrc_of}
use Rattle.frame.specs.Frame.{frame_of}
use Rattle.steps.specs.declared.step.Step.{Step as StepTexts}
use Rattle.steps.specs.Step.{step_from}
use Rattle.commands.specs.declared.request.Row.{Row as Fields}
use Rattle.commands.specs.declared.request.Load.TheVariants as load
use Rattle.commands.specs.declared.request.Store.TheVariants.{Register, Row, Step}
use Rattle.commands.specs.declared.request.Request.{Request}
use Rattle.commands.specs.declared.request.Request.TheVariants.{Load, Store}
use Rattle.commands.specs.Request.{row_of}
use Rattle.replies.specs.declared.reply.Outcome.{Outcome}
use Rattle.replies.specs.declared.reply.Data.TheVariants as held
use Rattle.replies.specs.declared.reply.Outcome.TheVariants.{Data, Status}
use Rattle.bodies.specs.Body.{Judged}
use Rattle.bodies.specs.Body.{Refused}
use Rattle.bodies.specs.Body.{read_body}
use Rattle.harl.specs.Message.{write_request, write_reply}
use Rattle.ports.specs.Place.{place_of}
use Rattle.programs.specs.Memory.{size}
use Rattle.model.specs.Call.{serve}
use Rattle.model.specs.Box.{setup, answer}

pub data Question : Type 0 where
  -- the frame of a station and a body
  framing : ℕ → List ℕ → Question
  -- the LRC of bytes
  lrc : List ℕ → Question
  -- a text read as hundredths
  reading : List ℕ → Question
  -- hundredths written
  writing : ℤ → Question
  -- a request written for a station, into an area of 64 bytes
  requesting : ℕ → Request → Question
  -- a reply to it
  replying : ℕ → Request → Outcome → Question
  -- a slice served by a new box of stations 1 to 4, with a reply area of 64 bytes
  serving : List ℕ → Question
  -- a body judged as a request: checks 9 to 12
  judging : List ℕ → Question
  -- the place of a signal, in ports that start with the first
  placing : ℕ → ℕ → Question

pub data Result : Type 0 where
  bytes : List ℕ → Result
  byte : ℕ → Result
  amount : Option ℤ → Result
  -- a refusal number, 0 for none, and the bytes of a frame
  sent : ℕ → List ℕ → Result
  verdict : Judged → Result
  -- a port and a bit
  place : ℕ → ℕ → Result

-- what the definitions give
unfoldable pub result_of : Question → Result
result_of (framing station body) = bytes (frame_of station body)
result_of (lrc bs) = byte (lrc_of bs)
result_of (reading text) = amount (read_hundredths text)
result_of (writing z) = bytes (hundredths_text z)
result_of (requesting station r) = sent (write_request 64 station r).number (write_request 64 station r).bytes
result_of (replying station r o) = sent (write_reply 64 station r o).number (write_reply 64 station r o).bytes
result_of (serving slice) =
    let a = answer (setup (1 ∷ 2 ∷ 3 ∷ 4 ∷ []) (replicate size 0)) (serve slice 64) in
    sent a.number a.reply
result_of (judging body) = verdict (read_body body)
result_of (placing first n) = place (place_of first n).port (place_of first n).bit

-- a row of the longest values
abbrev pub longest : Fields
longest = row_of (replicate 4 (neg_ℤ (pos 999999)))

-- a step of the longest texts, each "ABCDEFGH"
abbrev pub longest_step : StepTexts
longest_step = step_from (replicate 5 0x4847464544434241)

-- each question with the result that the document gives
unfoldable pub worked : List (Question × Result)
worked =
    -- P1: station 1, "LNT 5"
    (framing 1 (0x4C ∷ 0x4E ∷ 0x54 ∷ 0x20 ∷ 0x35 ∷ []), bytes (0x02 ∷ 0x31 ∷ 0x20 ∷ 0x4C ∷ 0x4E ∷ 0x54 ∷ 0x20 ∷ 0x35 ∷ 0x03 ∷ 0x51 ∷ []))
    -- P2: "2 SND 63 0042" and ETX; the reply "2 00" and ETX
    ∷ (lrc (0x32 ∷ 0x20 ∷ 0x53 ∷ 0x4E ∷ 0x44 ∷ 0x20 ∷ 0x36 ∷ 0x33 ∷ 0x20 ∷ 0x30 ∷ 0x30 ∷ 0x34 ∷ 0x32 ∷ 0x03 ∷ []), byte 0x4B)
    ∷ (lrc (0x32 ∷ 0x20 ∷ 0x30 ∷ 0x30 ∷ 0x03 ∷ []), byte 0x11)
    -- P2 from typed values: 42 into register 63 of station 2; the reply that it is done
    ∷ (requesting 2 (Store (Register 63 (pos 42))), sent 0 (0x02 ∷ 0x32 ∷ 0x20 ∷ 0x53 ∷ 0x4E ∷ 0x44 ∷ 0x20 ∷ 0x36 ∷ 0x33 ∷ 0x20 ∷ 0x30 ∷ 0x30 ∷ 0x34 ∷ 0x32 ∷ 0x03 ∷ 0x4B ∷ []))
    ∷ (replying 2 (Store (Register 63 (pos 42))) (Status 0), sent 0 (0x02 ∷ 0x32 ∷ 0x20 ∷ 0x30 ∷ 0x30 ∷ 0x03 ∷ 0x11 ∷ []))
    -- P2 served
    ∷ (serving (0x02 ∷ 0x32 ∷ 0x20 ∷ 0x53 ∷ 0x4E ∷ 0x44 ∷ 0x20 ∷ 0x36 ∷ 0x33 ∷ 0x20 ∷ 0x30 ∷ 0x30 ∷ 0x34 ∷ 0x32 ∷ 0x03 ∷ 0x4B ∷ []), sent 0 (0x02 ∷ 0x32 ∷ 0x20 ∷ 0x30 ∷ 0x30 ∷ 0x03 ∷ 0x11 ∷ []))
    -- P3: "-0.05"
    ∷ (reading (0x2D ∷ 0x30 ∷ 0x2E ∷ 0x30 ∷ 0x35 ∷ []), amount (Some (neg_ℤ (pos 5))))
    -- P4: "-0"
    ∷ (reading (0x2D ∷ 0x30 ∷ []), amount (Some (pos 0)))
    -- P5: "12.5"
    ∷ (reading (0x31 ∷ 0x32 ∷ 0x2E ∷ 0x35 ∷ []), amount (Some (pos 1250)))
    -- P6: "-9999.99"
    ∷ (reading (0x2D ∷ 0x39 ∷ 0x39 ∷ 0x39 ∷ 0x39 ∷ 0x2E ∷ 0x39 ∷ 0x39 ∷ []), amount (Some (neg_ℤ (pos 999999))))
    -- P7: "10000"
    ∷ (reading (0x31 ∷ 0x30 ∷ 0x30 ∷ 0x30 ∷ 0x30 ∷ []), amount None)
    -- P7 as an offset, "SNL 0 10000 0 0 0": SHAPE of an SN
    ∷ (judging (0x53 ∷ 0x4E ∷ 0x4C ∷ 0x20 ∷ 0x30 ∷ 0x20 ∷ 0x31 ∷ 0x30 ∷ 0x30 ∷ 0x30 ∷ 0x30 ∷ 0x20 ∷ 0x30 ∷ 0x20 ∷ 0x30 ∷ 0x20 ∷ 0x30 ∷ []), verdict (Refused 10 true))
    -- P8: "SNT 0 10.00": VALUE of an SN
    ∷ (judging (0x53 ∷ 0x4E ∷ 0x54 ∷ 0x20 ∷ 0x30 ∷ 0x20 ∷ 0x31 ∷ 0x30 ∷ 0x2E ∷ 0x30 ∷ 0x30 ∷ []), verdict (Refused 12 true))
    -- P9: "SNT 0 -0.01"
    ∷ (judging (0x53 ∷ 0x4E ∷ 0x54 ∷ 0x20 ∷ 0x30 ∷ 0x20 ∷ 0x2D ∷ 0x30 ∷ 0x2E ∷ 0x30 ∷ 0x31 ∷ []), verdict (Refused 12 true))
    -- P10: output signal 255
    ∷ (placing 0 255, place 31 7)
    -- P11: memory bit 272
    ∷ (placing 256 272, place 2 0)
    -- P12: "0.05"
    ∷ (writing (pos 5), bytes (0x30 ∷ 0x2E ∷ 0x30 ∷ 0x35 ∷ []))
    -- document 02, E6: the longest row
    ∷ (requesting 99 (Store (Row 99 longest)), sent 0 (0x02 ∷ 0x39 ∷ 0x39 ∷ 0x20 ∷ 0x53 ∷ 0x4E ∷ 0x4C ∷ 0x20 ∷ 0x39 ∷ 0x39 ∷ 0x20 ∷ 0x2D ∷ 0x39 ∷ 0x39 ∷ 0x39 ∷ 0x39 ∷ 0x2E ∷ 0x39 ∷ 0x39 ∷ 0x20 ∷ 0x2D ∷ 0x39 ∷ 0x39 ∷ 0x39 ∷ 0x39 ∷ 0x2E ∷ 0x39 ∷ 0x39 ∷ 0x20 ∷ 0x2D ∷ 0x39 ∷ 0x39 ∷ 0x39 ∷ 0x39 ∷ 0x2E ∷ 0x39 ∷ 0x39 ∷ 0x20 ∷ 0x2D ∷ 0x39 ∷ 0x39 ∷ 0x39 ∷ 0x39 ∷ 0x2E ∷ 0x39 ∷ 0x39 ∷ 0x03 ∷ 0x52 ∷ []))
    ∷ (replying 99 (Load (load.Row 99)) (Data (held.Row longest)), sent 0 (0x02 ∷ 0x39 ∷ 0x39 ∷ 0x20 ∷ 0x2D ∷ 0x39 ∷ 0x39 ∷ 0x39 ∷ 0x39 ∷ 0x2E ∷ 0x39 ∷ 0x39 ∷ 0x20 ∷ 0x2D ∷ 0x39 ∷ 0x39 ∷ 0x39 ∷ 0x39 ∷ 0x2E ∷ 0x39 ∷ 0x39 ∷ 0x20 ∷ 0x2D ∷ 0x39 ∷ 0x39 ∷ 0x39 ∷ 0x39 ∷ 0x2E ∷ 0x39 ∷ 0x39 ∷ 0x20 ∷ 0x2D ∷ 0x39 ∷ 0x39 ∷ 0x39 ∷ 0x39 ∷ 0x2E ∷ 0x39 ∷ 0x39 ∷ 0x03 ∷ 0x03 ∷ []))
    -- document 02, E3: the longest request, of 58 bytes, and the longest reply, of 54
    ∷ (requesting 99 (Store (Step 255 longest_step)), sent 0 (0x02 ∷ 0x39 ∷ 0x39 ∷ 0x20 ∷ 0x53 ∷ 0x4E ∷ 0x41 ∷ 0x20 ∷ 0x32 ∷ 0x35 ∷ 0x35 ∷ 0x20 ∷ 0x41 ∷ 0x42 ∷ 0x43 ∷ 0x44 ∷ 0x45 ∷ 0x46 ∷ 0x47 ∷ 0x48 ∷ 0x20 ∷ 0x41 ∷ 0x42 ∷ 0x43 ∷ 0x44 ∷ 0x45 ∷ 0x46 ∷ 0x47 ∷ 0x48 ∷ 0x20 ∷ 0x41 ∷ 0x42 ∷ 0x43 ∷ 0x44 ∷ 0x45 ∷ 0x46 ∷ 0x47 ∷ 0x48 ∷ 0x20 ∷ 0x41 ∷ 0x42 ∷ 0x43 ∷ 0x44 ∷ 0x45 ∷ 0x46 ∷ 0x47 ∷ 0x48 ∷ 0x20 ∷ 0x41 ∷ 0x42 ∷ 0x43 ∷ 0x44 ∷ 0x45 ∷ 0x46 ∷ 0x47 ∷ 0x48 ∷ 0x03 ∷ 0x45 ∷ []))
    ∷ (replying 99 (Load (load.Step 255)) (Data (held.Step 255 longest_step)), sent 0 (0x02 ∷ 0x39 ∷ 0x39 ∷ 0x20 ∷ 0x32 ∷ 0x35 ∷ 0x35 ∷ 0x20 ∷ 0x41 ∷ 0x42 ∷ 0x43 ∷ 0x44 ∷ 0x45 ∷ 0x46 ∷ 0x47 ∷ 0x48 ∷ 0x20 ∷ 0x41 ∷ 0x42 ∷ 0x43 ∷ 0x44 ∷ 0x45 ∷ 0x46 ∷ 0x47 ∷ 0x48 ∷ 0x20 ∷ 0x41 ∷ 0x42 ∷ 0x43 ∷ 0x44 ∷ 0x45 ∷ 0x46 ∷ 0x47 ∷ 0x48 ∷ 0x20 ∷ 0x41 ∷ 0x42 ∷ 0x43 ∷ 0x44 ∷ 0x45 ∷ 0x46 ∷ 0x47 ∷ 0x48 ∷ 0x20 ∷ 0x41 ∷ 0x42 ∷ 0x43 ∷ 0x44 ∷ 0x45 ∷ 0x46 ∷ 0x47 ∷ 0x48 ∷ 0x03 ∷ 0x39 ∷ []))
    -- a step never written, "1 LNA 7": EMPTY; a typed text with a hole: VALUE
    ∷ (serving (0x02 ∷ 0x31 ∷ 0x20 ∷ 0x4C ∷ 0x4E ∷ 0x41 ∷ 0x20 ∷ 0x37 ∷ 0x03 ∷ 0x46 ∷ []), sent 16 (0x02 ∷ 0x31 ∷ 0x20 ∷ 0x45 ∷ 0x31 ∷ 0x36 ∷ 0x03 ∷ 0x50 ∷ []))
    ∷ (requesting 1 (Store (Step 0 (step_from (0x420041 ∷ [])))), sent 12 [])
    ∷ []

-- every question has the result that the document says
abbrev pub Worked : Type 0
Worked = map (λ c. result_of c.0) worked ≡ map (λ c. c.1) worked
