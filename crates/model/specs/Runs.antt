-- Runs of the box, call by call, with the answers expected.
use Rattle.std.specs.Prelude.{ℕ, ◌≡◌, List, [], ◌∷◌, ◌++◌, map, replicate}
use Rattle.frame.specs.Frame.{frame_of}
use Rattle.programs.specs.Memory.{size}
use Rattle.model.specs.Call.{Call, serve, input, outputs_on, Answer, no_reply, the_count}
use Rattle.model.specs.Setup.{setup_refusal}
use Rattle.model.specs.Box.{Box, setup, after, answer}

-- a call and its answer
pub record Turn : Type 0 where
  pub call : Call
  pub answer : Answer

-- the numbers given to setup, how many bytes it is lent for the START programs, the number that it gives, and the calls after it
pub record Run : Type 0 where
  pub want : List ℕ
  pub lent : ℕ
  pub number : ℕ
  pub turns : List Turn

-- the same calls, with the answers that the box gives
unfoldable pub replayed_turns : Box → List Turn → List Turn
replayed_turns b [] = []
replayed_turns b (t ∷ ts) = record { call = t.call; answer = answer b t.call } ∷ replayed_turns (after b t.call) ts

-- the same run, as the box goes through it; whatever the lent bytes are, here 255
abbrev pub replayed : Run → Run
replayed r =
    let m : List ℕ = replicate r.lent 255 in
    record { want = r.want; lent = r.lent; number = setup_refusal r.want m; turns = replayed_turns (setup r.want m) r.turns }

-- a request to a station, the number and the position given, and the body of the reply
abbrev pub asks : ℕ → List ℕ → ℕ → ℕ → List ℕ → Turn
asks s body n p reply = record { call = serve (frame_of s body) 64; answer = record { number = n; position = p; reply = frame_of s reply } }

-- a call that has no reply, and the number given; there is no position to tell
abbrev pub gives : Call → ℕ → Turn
gives c n = record { call = c; answer = no_reply n 0 }

-- a call that has no reply, the number given, and where the slice is wrong
abbrev pub points : Call → ℕ → ℕ → Turn
points c n p = record { call = c; answer = no_reply n p }

-- a slot of which it is asked how many outputs are on, and the number told
abbrev pub tells : ℕ → ℕ → Turn
tells k n = record { call = outputs_on k; answer = the_count n }

-- LND 5
abbrev pub lnd : List ℕ
lnd = 76 ∷ 78 ∷ 68 ∷ 32 ∷ 53 ∷ []

-- arm 2 has a register 5 of its own
abbrev pub register_turns : List Turn
register_turns =
    -- SND 5 0042: 00
    asks 1 (83 ∷ 78 ∷ 68 ∷ 32 ∷ 53 ∷ 32 ∷ 48 ∷ 48 ∷ 52 ∷ 50 ∷ []) 0 0 (48 ∷ 48 ∷ []) ∷
    -- LND 5: 0000
    asks 2 lnd 0 0 (48 ∷ 48 ∷ 48 ∷ 48 ∷ []) ∷
    -- LND 5: 0042
    asks 1 lnd 0 0 (48 ∷ 48 ∷ 52 ∷ 50 ∷ []) ∷
    []

-- SNL 99 and data
abbrev pub snl99 : List ℕ → List ℕ
snl99 text = 83 ∷ 78 ∷ 76 ∷ 32 ∷ 57 ∷ 57 ∷ 32 ∷ text

-- row 99 of arm 1 is followed by no other, and a refused SNL leaves the whole row, whichever of its fields is wrong
abbrev pub row_turns : List Turn
row_turns =
    -- SNL 99 -9999.99 0.05 9999.99 -0.01: 00
    asks 1 (snl99 (45 ∷ 57 ∷ 57 ∷ 57 ∷ 57 ∷ 46 ∷ 57 ∷ 57 ∷ 32 ∷ 48 ∷ 46 ∷ 48 ∷ 53 ∷ 32 ∷ 57 ∷ 57 ∷ 57 ∷ 57 ∷ 46 ∷ 57 ∷ 57 ∷ 32 ∷ 45 ∷ 48 ∷ 46 ∷ 48 ∷ 49 ∷ [])) 0 0 (48 ∷ 48 ∷ []) ∷
    -- LNL 0: 0.00 0.00 0.00 0.00
    asks 2 (76 ∷ 78 ∷ 76 ∷ 32 ∷ 48 ∷ []) 0 0 (48 ∷ 46 ∷ 48 ∷ 48 ∷ 32 ∷ 48 ∷ 46 ∷ 48 ∷ 48 ∷ 32 ∷ 48 ∷ 46 ∷ 48 ∷ 48 ∷ 32 ∷ 48 ∷ 46 ∷ 48 ∷ 48 ∷ []) ∷
    -- SNL 99 1 2: 10
    asks 1 (snl99 (49 ∷ 32 ∷ 50 ∷ [])) 10 13 (49 ∷ 48 ∷ []) ∷
    -- SNL 99 1 2 3: 10
    asks 1 (snl99 (49 ∷ 32 ∷ 50 ∷ 32 ∷ 51 ∷ [])) 10 15 (49 ∷ 48 ∷ []) ∷
    -- SNL 99 1 2 3 4 5: 10
    asks 1 (snl99 (49 ∷ 32 ∷ 50 ∷ 32 ∷ 51 ∷ 32 ∷ 52 ∷ 32 ∷ 53 ∷ [])) 10 18 (49 ∷ 48 ∷ []) ∷
    -- SNL 99 10000 2 3 4: 10
    asks 1 (snl99 (49 ∷ 48 ∷ 48 ∷ 48 ∷ 48 ∷ 32 ∷ 50 ∷ 32 ∷ 51 ∷ 32 ∷ 52 ∷ [])) 10 10 (49 ∷ 48 ∷ []) ∷
    -- SNL 99 1 10000 3 4: 10
    asks 1 (snl99 (49 ∷ 32 ∷ 49 ∷ 48 ∷ 48 ∷ 48 ∷ 48 ∷ 32 ∷ 51 ∷ 32 ∷ 52 ∷ [])) 10 12 (49 ∷ 48 ∷ []) ∷
    -- SNL 99 1 2 10000 4: 10
    asks 1 (snl99 (49 ∷ 32 ∷ 50 ∷ 32 ∷ 49 ∷ 48 ∷ 48 ∷ 48 ∷ 48 ∷ 32 ∷ 52 ∷ [])) 10 14 (49 ∷ 48 ∷ []) ∷
    -- SNL 99 1 2 3 10000: 10
    asks 1 (snl99 (49 ∷ 32 ∷ 50 ∷ 32 ∷ 51 ∷ 32 ∷ 49 ∷ 48 ∷ 48 ∷ 48 ∷ 48 ∷ [])) 10 16 (49 ∷ 48 ∷ []) ∷
    -- LNL 99: -9999.99 0.05 9999.99 -0.01
    asks 1 (76 ∷ 78 ∷ 76 ∷ 32 ∷ 57 ∷ 57 ∷ []) 0 0 (45 ∷ 57 ∷ 57 ∷ 57 ∷ 57 ∷ 46 ∷ 57 ∷ 57 ∷ 32 ∷ 48 ∷ 46 ∷ 48 ∷ 53 ∷ 32 ∷ 57 ∷ 57 ∷ 57 ∷ 57 ∷ 46 ∷ 57 ∷ 57 ∷ 32 ∷ 45 ∷ 48 ∷ 46 ∷ 48 ∷ 49 ∷ []) ∷
    -- SNL 100 1 2 3 4: 11
    asks 1 (83 ∷ 78 ∷ 76 ∷ 32 ∷ 49 ∷ 48 ∷ 48 ∷ 32 ∷ 49 ∷ 32 ∷ 50 ∷ 32 ∷ 51 ∷ 32 ∷ 52 ∷ []) 11 7 (49 ∷ 49 ∷ []) ∷
    -- LNL 100: E11
    asks 1 (76 ∷ 78 ∷ 76 ∷ 32 ∷ 49 ∷ 48 ∷ 48 ∷ []) 11 7 (69 ∷ 49 ∷ 49 ∷ []) ∷
    []

-- each refusal that tells where the slice is wrong (document 02, E9); STX stands at 0
abbrev pub pointed_turns : List Turn
pointed_turns =
    -- L, 1Fh, 7Fh: the first stray byte
    points (serve (frame_of 1 (76 ∷ 31 ∷ 127 ∷ [])) 64) 6 4 ∷
    -- station 0
    points (serve (frame_of 0 lnd) 64) 7 1 ∷
    -- lnd 5: E09 at the name
    asks 1 (108 ∷ 110 ∷ 100 ∷ 32 ∷ 53 ∷ []) 9 3 (69 ∷ 48 ∷ 57 ∷ []) ∷
    -- an empty name, which SP ends
    asks 1 (32 ∷ 76 ∷ 78 ∷ 68 ∷ 32 ∷ 53 ∷ []) 9 3 (69 ∷ 48 ∷ 57 ∷ []) ∷
    -- LND: no number, so that ETX offends
    asks 1 (76 ∷ 78 ∷ 68 ∷ []) 10 6 (69 ∷ 49 ∷ 48 ∷ []) ∷
    -- SND  x: the number is empty, and stands at the SP that ends it
    asks 1 (83 ∷ 78 ∷ 68 ∷ 32 ∷ 32 ∷ 120 ∷ []) 10 7 (49 ∷ 48 ∷ []) ∷
    -- LND x y z: a malformed field comes before a surplus one
    asks 1 (76 ∷ 78 ∷ 68 ∷ 32 ∷ 120 ∷ 32 ∷ 121 ∷ 32 ∷ 122 ∷ []) 10 7 (69 ∷ 49 ∷ 48 ∷ []) ∷
    -- LND 5 x: a surplus field in any form
    asks 1 (76 ∷ 78 ∷ 68 ∷ 32 ∷ 53 ∷ 32 ∷ 120 ∷ []) 10 9 (69 ∷ 49 ∷ 48 ∷ []) ∷
    -- LND 5 and SP: an empty surplus field, which ETX ends
    asks 1 (76 ∷ 78 ∷ 68 ∷ 32 ∷ 53 ∷ 32 ∷ []) 10 9 (69 ∷ 49 ∷ 48 ∷ []) ∷
    -- SND 64 x: the form of the data comes before the range of the number
    asks 1 (83 ∷ 78 ∷ 68 ∷ 32 ∷ 54 ∷ 52 ∷ 32 ∷ 120 ∷ []) 10 10 (49 ∷ 48 ∷ []) ∷
    -- SND 64 99999
    asks 1 (83 ∷ 78 ∷ 68 ∷ 32 ∷ 54 ∷ 52 ∷ 32 ∷ 57 ∷ 57 ∷ 57 ∷ 57 ∷ 57 ∷ []) 10 10 (49 ∷ 48 ∷ []) ∷
    -- SNOB 256 2: the number before the data
    asks 1 (83 ∷ 78 ∷ 79 ∷ 66 ∷ 32 ∷ 50 ∷ 53 ∷ 54 ∷ 32 ∷ 50 ∷ []) 11 8 (49 ∷ 49 ∷ []) ∷
    -- SNOB 255 2
    asks 1 (83 ∷ 78 ∷ 79 ∷ 66 ∷ 32 ∷ 50 ∷ 53 ∷ 53 ∷ 32 ∷ 50 ∷ []) 12 12 (49 ∷ 50 ∷ []) ∷
    []

-- slot 2 has arm 3; a signal is a bit of its port
abbrev pub port_turns : List Turn
port_turns =
    gives (input 2 31 200) 0 ∷
    -- LNID 31: 200
    asks 3 (76 ∷ 78 ∷ 73 ∷ 68 ∷ 32 ∷ 51 ∷ 49 ∷ []) 0 0 (50 ∷ 48 ∷ 48 ∷ []) ∷
    -- SNOB 255 1: 00
    asks 4 (83 ∷ 78 ∷ 79 ∷ 66 ∷ 32 ∷ 50 ∷ 53 ∷ 53 ∷ 32 ∷ 49 ∷ []) 0 0 (48 ∷ 48 ∷ []) ∷
    -- LNOD 31: 128
    asks 4 (76 ∷ 78 ∷ 79 ∷ 68 ∷ 32 ∷ 51 ∷ 49 ∷ []) 0 0 (49 ∷ 50 ∷ 56 ∷ []) ∷
    -- SNBB 272 1: 00
    asks 4 (83 ∷ 78 ∷ 66 ∷ 66 ∷ 32 ∷ 50 ∷ 55 ∷ 50 ∷ 32 ∷ 49 ∷ []) 0 0 (48 ∷ 48 ∷ []) ∷
    -- LNBD 2: 1
    asks 4 (76 ∷ 78 ∷ 66 ∷ 68 ∷ 32 ∷ 50 ∷ []) 0 0 (49 ∷ []) ∷
    []

-- how many outputs are on (document 02, E7), after the turns above: slot 3 has arm 4, of which memory bits, inputs, other arms and
-- refused requests do not move the number
abbrev pub count_turns : List Turn
count_turns =
    tells 3 1 ∷
    -- SNOD 0 255: 00
    asks 4 (83 ∷ 78 ∷ 79 ∷ 68 ∷ 32 ∷ 48 ∷ 32 ∷ 50 ∷ 53 ∷ 53 ∷ []) 0 0 (48 ∷ 48 ∷ []) ∷
    tells 3 9 ∷
    -- the same byte again
    asks 4 (83 ∷ 78 ∷ 79 ∷ 68 ∷ 32 ∷ 48 ∷ 32 ∷ 50 ∷ 53 ∷ 53 ∷ []) 0 0 (48 ∷ 48 ∷ []) ∷
    tells 3 9 ∷
    -- SNOB 7 0: 00
    asks 4 (83 ∷ 78 ∷ 79 ∷ 66 ∷ 32 ∷ 55 ∷ 32 ∷ 48 ∷ []) 0 0 (48 ∷ 48 ∷ []) ∷
    tells 3 8 ∷
    -- the same signal off twice
    asks 4 (83 ∷ 78 ∷ 79 ∷ 66 ∷ 32 ∷ 55 ∷ 32 ∷ 48 ∷ []) 0 0 (48 ∷ 48 ∷ []) ∷
    tells 3 8 ∷
    -- SNOD 31 0: 00
    asks 4 (83 ∷ 78 ∷ 79 ∷ 68 ∷ 32 ∷ 51 ∷ 49 ∷ 32 ∷ 48 ∷ []) 0 0 (48 ∷ 48 ∷ []) ∷
    tells 3 7 ∷
    -- SNBD 2 255: 00
    asks 4 (83 ∷ 78 ∷ 66 ∷ 68 ∷ 32 ∷ 50 ∷ 32 ∷ 50 ∷ 53 ∷ 53 ∷ []) 0 0 (48 ∷ 48 ∷ []) ∷
    -- SNBB 272 0: 00
    asks 4 (83 ∷ 78 ∷ 66 ∷ 66 ∷ 32 ∷ 50 ∷ 55 ∷ 50 ∷ 32 ∷ 48 ∷ []) 0 0 (48 ∷ 48 ∷ []) ∷
    gives (input 3 0 255) 0 ∷
    -- SNOD 0 3: 00
    asks 2 (83 ∷ 78 ∷ 79 ∷ 68 ∷ 32 ∷ 48 ∷ 32 ∷ 51 ∷ []) 0 0 (48 ∷ 48 ∷ []) ∷
    -- SNOD 32 255: 11, SNOD 0 256: 12, SNOB 0 2: 12
    asks 4 (83 ∷ 78 ∷ 79 ∷ 68 ∷ 32 ∷ 51 ∷ 50 ∷ 32 ∷ 50 ∷ 53 ∷ 53 ∷ []) 11 8 (49 ∷ 49 ∷ []) ∷
    asks 4 (83 ∷ 78 ∷ 79 ∷ 68 ∷ 32 ∷ 48 ∷ 32 ∷ 50 ∷ 53 ∷ 54 ∷ []) 12 10 (49 ∷ 50 ∷ []) ∷
    asks 4 (83 ∷ 78 ∷ 79 ∷ 66 ∷ 32 ∷ 48 ∷ 32 ∷ 50 ∷ []) 12 10 (49 ∷ 50 ∷ []) ∷
    tells 3 7 ∷
    tells 1 2 ∷
    tells 0 0 ∷
    gives (outputs_on 4) 14 ∷
    []

-- no reply: station 9 is absent, which is judged after its LRC; a room of 63 bytes; no slot 4; no port 32
abbrev pub unanswered_turns : List Turn
unanswered_turns =
    gives (serve (frame_of 9 lnd) 64) 8 ∷
    gives (serve (2 ∷ 57 ∷ 32 ∷ (lnd ++ (3 ∷ 0 ∷ []))) 64) 5 ∷
    gives (serve (frame_of 1 lnd) 63) 1 ∷
    gives (input 4 0 1) 14 ∷
    gives (input 0 32 1) 14 ∷
    []

-- the last slot, port and byte that an input call may name, and the first; slot 1 is unfitted, and there is no slot 4
abbrev pub input_turns : List Turn
input_turns =
    gives (input 3 31 255) 0 ∷
    -- LNID 31: 255
    asks 1 (76 ∷ 78 ∷ 73 ∷ 68 ∷ 32 ∷ 51 ∷ 49 ∷ []) 0 0 (50 ∷ 53 ∷ 53 ∷ []) ∷
    gives (input 0 0 1) 0 ∷
    gives (input 0 0 0) 0 ∷
    -- LNID 0: 0
    asks 99 (76 ∷ 78 ∷ 73 ∷ 68 ∷ 32 ∷ 48 ∷ []) 0 0 (48 ∷ []) ∷
    gives (input 1 0 1) 14 ∷
    gives (input 4 0 1) 14 ∷
    tells 3 0 ∷
    gives (outputs_on 1) 14 ∷
    []

-- an empty name, which ETX ends: E09 there
abbrev pub empty_turns : List Turn
empty_turns = asks 99 [] 9 4 (69 ∷ 48 ∷ 57 ∷ []) ∷ []

abbrev pub runs : List Run
runs =
    -- four arms
    record { want = 1 ∷ 2 ∷ 3 ∷ 4 ∷ []; lent = size; number = 0; turns = register_turns ++ (row_turns ++ (port_turns ++ (count_turns ++ (pointed_turns ++ unanswered_turns)))) } ∷
    -- the highest station and the lowest, in the first slot and the last
    record { want = 99 ∷ 0 ∷ 0 ∷ 1 ∷ []; lent = size; number = 0; turns = input_turns ++ empty_turns } ∷
    -- one arm, in slot 1
    record { want = 0 ∷ 7 ∷ 0 ∷ 0 ∷ []; lent = size; number = 0; turns = gives (input 0 0 1) 14 ∷ gives (input 1 0 1) 0 ∷ [] } ∷
    -- station 1 twice, so that no arm is fitted
    record { want = 1 ∷ 2 ∷ 1 ∷ 0 ∷ []; lent = size; number = 13; turns = gives (serve (frame_of 1 lnd) 64) 8 ∷ gives (input 0 0 1) 14 ∷ gives (outputs_on 0) 14 ∷ [] } ∷
    -- station 7 in the first slot and the last
    record { want = 7 ∷ 0 ∷ 1 ∷ 7 ∷ []; lent = size; number = 13; turns = [] } ∷
    -- a station above 99, in the first slot and behind another
    record { want = 100 ∷ 0 ∷ 0 ∷ 0 ∷ []; lent = size; number = 13; turns = [] } ∷
    record { want = 1 ∷ 100 ∷ 0 ∷ 0 ∷ []; lent = size; number = 13; turns = gives (serve (frame_of 1 lnd) 64) 8 ∷ [] } ∷
    -- a byte too few and one too many: ROOM, before 13 too, and to every slice, even one that is no frame; no arm is fitted
    record { want = 1 ∷ 2 ∷ 3 ∷ 4 ∷ []; lent = 40959; number = 1; turns = gives (serve (frame_of 1 lnd) 64) 1 ∷ gives (serve [] 64) 1 ∷ gives (input 0 0 1) 14 ∷ gives (outputs_on 0) 14 ∷ [] } ∷
    record { want = 1 ∷ 1 ∷ 0 ∷ 0 ∷ []; lent = 40961; number = 1; turns = gives (serve (frame_of 1 lnd) 64) 1 ∷ [] } ∷
    []

-- the box goes through every run as it stands here (proved in proofs/Runs.antt)
abbrev pub Runs : Type 0
Runs = map replayed runs ≡ runs
