-- Replies with the bits of their doubles, worked out by hand (proved in proofs/Worked.antt). Bytes and bits are written in
-- hexadecimal.
use Rattle.std.specs.Prelude.{ℕ, ◌≡◌, List, [], ◌∷◌, map, pos, replicate}
use Rattle.std.specs.Float.{binary64}
use Rattle.std.specs.Float.Ieee.{to_bits}
use Rattle.frame.specs.Frame.{frame_of}
use Rattle.commands.specs.declared.request.Load.{Load as Item}
use Rattle.commands.specs.declared.request.Load.TheVariants as load
use Rattle.commands.specs.declared.request.Store.TheVariants as store
use Rattle.commands.specs.declared.request.Request.{Request}
use Rattle.commands.specs.declared.request.Request.TheVariants.{Load, Store}
use Rattle.commands.specs.Request.{signal, port}
use Rattle.harl.specs.Message.{read_reply}
use Rattle.readings.specs.Reply.{converted}
use Rattle.untyped.specs.Untyped.{numbers_of}

-- the refusal number, 0 for none, the kind, and the bits of the four doubles
pub record Result : Type 0 where
  pub number : ℕ
  pub kind : ℕ
  pub bits : List ℕ

-- what is asked of a station, the body of the reply that comes from a station, and what it must give
pub record Example : Type 0 where
  pub asked : ℕ
  pub from : ℕ
  pub request : Request
  pub body : List ℕ
  pub gives : Result

-- what the definitions give
unfoldable pub result_of : Example → Result
result_of e =
    let n = numbers_of (converted (read_reply (frame_of e.from e.body) e.asked e.request)) in
    record { number = n.number; kind = n.kind; bits = map (to_bits binary64) n.doubles }

-- a reply of station 1 with doubles
abbrev reading : Item → List ℕ → ℕ → List ℕ → Example
reading item body kind bits =
    record { asked = 1; from = 1; request = Load item; body = body; gives = record { number = 0; kind = kind; bits = bits } }

abbrev seconds : List ℕ → ℕ → Example
seconds body bits = reading (load.Timer 5) body 1 (bits ∷ replicate 3 0)

abbrev millimetres : List ℕ → List ℕ → Example
millimetres body bits = reading (load.Row 7) body 2 bits

abbrev count : Item → List ℕ → ℕ → Example
count item body bits = reading item body 3 (bits ∷ replicate 3 0)

-- a reply without one
abbrev plain : ℕ → ℕ → Request → List ℕ → ℕ → ℕ → Example
plain asked from request body number kind =
    record { asked = asked; from = from; request = request; body = body; gives = record { number = number; kind = kind; bits = replicate 4 0 } }

unfoldable pub examples : List Example
examples =
    -- "0.00"
    seconds (0x30 ∷ 0x2E ∷ 0x30 ∷ 0x30 ∷ []) 0
    -- "-0.00"
    ∷ seconds (0x2D ∷ 0x30 ∷ 0x2E ∷ 0x30 ∷ 0x30 ∷ []) 0
    -- "0.05"
    ∷ seconds (0x30 ∷ 0x2E ∷ 0x30 ∷ 0x35 ∷ []) 0x3FA9_9999_9999_999A
    -- "9.99"
    ∷ seconds (0x39 ∷ 0x2E ∷ 0x39 ∷ 0x39 ∷ []) 0x4023_FAE1_47AE_147B
    -- "-0 -0.0 -0.00 0.00"
    ∷ millimetres (0x2D ∷ 0x30 ∷ 0x20 ∷ 0x2D ∷ 0x30 ∷ 0x2E ∷ 0x30 ∷ 0x20 ∷ 0x2D ∷ 0x30 ∷ 0x2E ∷ 0x30 ∷ 0x30 ∷ 0x20 ∷ 0x30 ∷ 0x2E ∷ 0x30 ∷ 0x30 ∷ []) (0 ∷ 0 ∷ 0 ∷ 0 ∷ [])
    -- "0.01 -0.01 -0.05 0.07"
    ∷ millimetres (0x30 ∷ 0x2E ∷ 0x30 ∷ 0x31 ∷ 0x20 ∷ 0x2D ∷ 0x30 ∷ 0x2E ∷ 0x30 ∷ 0x31 ∷ 0x20 ∷ 0x2D ∷ 0x30 ∷ 0x2E ∷ 0x30 ∷ 0x35 ∷ 0x20 ∷ 0x30 ∷ 0x2E ∷ 0x30 ∷ 0x37 ∷ []) (0x3F84_7AE1_47AE_147B ∷ 0xBF84_7AE1_47AE_147B ∷ 0xBFA9_9999_9999_999A ∷ 0x3FB1_EB85_1EB8_51EC ∷ [])
    -- "0.1 0.25 0.35 0.50"
    ∷ millimetres (0x30 ∷ 0x2E ∷ 0x31 ∷ 0x20 ∷ 0x30 ∷ 0x2E ∷ 0x32 ∷ 0x35 ∷ 0x20 ∷ 0x30 ∷ 0x2E ∷ 0x33 ∷ 0x35 ∷ 0x20 ∷ 0x30 ∷ 0x2E ∷ 0x35 ∷ 0x30 ∷ []) (0x3FB9_9999_9999_999A ∷ 0x3FD0_0000_0000_0000 ∷ 0x3FD6_6666_6666_6666 ∷ 0x3FE0_0000_0000_0000 ∷ [])
    -- "1.00 -1 1.25 0.99"
    ∷ millimetres (0x31 ∷ 0x2E ∷ 0x30 ∷ 0x30 ∷ 0x20 ∷ 0x2D ∷ 0x31 ∷ 0x20 ∷ 0x31 ∷ 0x2E ∷ 0x32 ∷ 0x35 ∷ 0x20 ∷ 0x30 ∷ 0x2E ∷ 0x39 ∷ 0x39 ∷ []) (0x3FF0_0000_0000_0000 ∷ 0xBFF0_0000_0000_0000 ∷ 0x3FF4_0000_0000_0000 ∷ 0x3FEF_AE14_7AE1_47AE ∷ [])
    -- "12.5 -12.50 100 1.14"
    ∷ millimetres (0x31 ∷ 0x32 ∷ 0x2E ∷ 0x35 ∷ 0x20 ∷ 0x2D ∷ 0x31 ∷ 0x32 ∷ 0x2E ∷ 0x35 ∷ 0x30 ∷ 0x20 ∷ 0x31 ∷ 0x30 ∷ 0x30 ∷ 0x20 ∷ 0x31 ∷ 0x2E ∷ 0x31 ∷ 0x34 ∷ []) (0x4029_0000_0000_0000 ∷ 0xC029_0000_0000_0000 ∷ 0x4059_0000_0000_0000 ∷ 0x3FF2_3D70_A3D7_0A3D ∷ [])
    -- "123.45 9999.00 9999.75 9999.99"
    ∷ millimetres (0x31 ∷ 0x32 ∷ 0x33 ∷ 0x2E ∷ 0x34 ∷ 0x35 ∷ 0x20 ∷ 0x39 ∷ 0x39 ∷ 0x39 ∷ 0x39 ∷ 0x2E ∷ 0x30 ∷ 0x30 ∷ 0x20 ∷ 0x39 ∷ 0x39 ∷ 0x39 ∷ 0x39 ∷ 0x2E ∷ 0x37 ∷ 0x35 ∷ 0x20 ∷ 0x39 ∷ 0x39 ∷ 0x39 ∷ 0x39 ∷ 0x2E ∷ 0x39 ∷ 0x39 ∷ []) (0x405E_DCCC_CCCC_CCCD ∷ 0x40C3_8780_0000_0000 ∷ 0x40C3_87E0_0000_0000 ∷ 0x40C3_87FE_B851_EB85 ∷ [])
    -- "-9999.99 0.05 9.99 0.35"
    ∷ millimetres (0x2D ∷ 0x39 ∷ 0x39 ∷ 0x39 ∷ 0x39 ∷ 0x2E ∷ 0x39 ∷ 0x39 ∷ 0x20 ∷ 0x30 ∷ 0x2E ∷ 0x30 ∷ 0x35 ∷ 0x20 ∷ 0x39 ∷ 0x2E ∷ 0x39 ∷ 0x39 ∷ 0x20 ∷ 0x30 ∷ 0x2E ∷ 0x33 ∷ 0x35 ∷ []) (0xC0C3_87FE_B851_EB85 ∷ 0x3FA9_9999_9999_999A ∷ 0x4023_FAE1_47AE_147B ∷ 0x3FD6_6666_6666_6666 ∷ [])
    -- LND "0042" and "9999", LNOB "1", LNBB "0", LNOD "128", LNID "255"
    ∷ count (load.Register 40) (0x30 ∷ 0x30 ∷ 0x34 ∷ 0x32 ∷ []) 0x4045_0000_0000_0000
    ∷ count (load.Register 63) (0x39 ∷ 0x39 ∷ 0x39 ∷ 0x39 ∷ []) 0x40C3_8780_0000_0000
    ∷ count (load.Output (signal 255)) (0x31 ∷ []) 0x3FF0_0000_0000_0000
    ∷ count (load.MemoryBit (signal 256)) (0x30 ∷ []) 0
    ∷ count (load.OutputPort (port 31)) (0x31 ∷ 0x32 ∷ 0x38 ∷ []) 0x4060_0000_0000_0000
    ∷ count (load.InputPort (port 0)) (0x32 ∷ 0x35 ∷ 0x35 ∷ []) 0x406F_E000_0000_0000
    -- no double: LNT "E05", LNA "E16" and "0 MOV P1", SNT "00"
    ∷ plain 1 1 (Load (load.Timer 5)) (0x45 ∷ 0x30 ∷ 0x35 ∷ []) 0 4
    ∷ plain 1 1 (Load (load.Step 7)) (0x45 ∷ 0x31 ∷ 0x36 ∷ []) 0 4
    ∷ plain 1 1 (Load (load.Step 0)) (0x30 ∷ 0x20 ∷ 0x4D ∷ 0x4F ∷ 0x56 ∷ 0x20 ∷ 0x50 ∷ 0x31 ∷ []) 0 5
    ∷ plain 1 1 (Store (store.Timer 5 (pos 125))) (0x30 ∷ 0x30 ∷ []) 0 4
    -- refused: a reply of station 2 to station 1; a timer of 10.00; stations 0 and 100; timer 16; a timer set to 10.00
    ∷ plain 1 2 (Load (load.Timer 5)) (0x30 ∷ 0x2E ∷ 0x30 ∷ 0x35 ∷ []) 15 0
    ∷ plain 1 1 (Load (load.Timer 5)) (0x31 ∷ 0x30 ∷ 0x2E ∷ 0x30 ∷ 0x30 ∷ []) 15 0
    ∷ plain 0 1 (Load (load.Timer 16)) (0x30 ∷ 0x2E ∷ 0x30 ∷ 0x35 ∷ []) 7 0
    ∷ plain 100 1 (Load (load.Timer 5)) (0x30 ∷ 0x2E ∷ 0x30 ∷ 0x35 ∷ []) 7 0
    ∷ plain 1 1 (Load (load.Timer 16)) (0x30 ∷ 0x2E ∷ 0x30 ∷ 0x35 ∷ []) 11 0
    ∷ plain 1 1 (Store (store.Timer 5 (pos 1000))) (0x30 ∷ 0x30 ∷ []) 12 0
    ∷ []

abbrev pub Worked : Type 0
Worked = map result_of examples ≡ map (λ e. e.gives) examples
