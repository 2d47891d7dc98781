-- Requests and replies as whole frames (document 01, "Refusal numbers, in the order checked").
use Rattle.std.specs.Prelude.{ℕ, Bool, ◌≤◌, ◌≡◌, cond, ◌||◌, List, [], ltb, eqb, length, Option, None, Some, Result, Ok, Err}
use Rattle.std.proofs.lemmas.List.Edits.{sets}
use Rattle.frame.specs.Frame.{Reading, read_frame, frame_position, frame_of}
use Rattle.commands.specs.declared.table.Rule.{Rule}
use Rattle.commands.specs.declared.request.Request.{Request}
use Rattle.replies.specs.declared.reply.Outcome.{Outcome}
use Rattle.refusals.specs.declared.refusal.Refusal.{Refusal}
use Rattle.refusals.specs.declared.refusal.Refused.{Refused}
use Rattle.refusals.specs.Refusal.{number_of}
use Rattle.harl.specs.declared.message.Asked.{Asked}
use Rattle.harl.specs.declared.message.Sent.{Sent}
use Rattle.commands.specs.Table.{rule_of}
use Rattle.commands.specs.Request.{parts_of}
use Rattle.data.specs.Ranges.{judge}
use Rattle.bodies.specs.Body.{Judged}
use Rattle.bodies.specs.Body as judged
use Rattle.bodies.specs.Body.{read_body, body_text}
use Rattle.bodies.specs.Position.{body_position}
use Rattle.reply_writer.specs.Writer.{judge_outcome, outcome_text}
use Rattle.reply_reader.specs.Reader.{read_outcome}

-- the rule of a request's command
abbrev pub rule_for : Request → Rule
rule_for r = rule_of (parts_of r).command

-- 11 NUMBER, 12 VALUE of a typed request; 0 where neither is given
abbrev pub judge_request : Request → ℕ
judge_request r = judge (rule_for r) (parts_of r).number (parts_of r).payload

-- the stations are 1 to 99
abbrev pub no_station : ℕ → Bool
no_station station = eqb station 0 || ltb 99 station

-- 7 STATION; 0 where it is not given
abbrev pub judge_station : ℕ → ℕ
judge_station station = cond (no_station station) 7 0

-- 7 STATION, then those
unfoldable pub judge_asked : ℕ → Request → ℕ
judge_asked station r = cond (no_station station) 7 (judge_request r)

-- ---- reading a request: 2 to 7, then 9 to 12

-- what reading a request hands back: the refusal number, 0 for none; the position where the slice is wrong (document 02,
-- E9), 0 where there is none to tell; the station and the request, 0 and none where refused
pub record RequestReading : Type 0 where
  pub number : ℕ
  pub position : ℕ
  pub station : ℕ
  pub request : Option Request

-- accepted
abbrev pub the_request : ℕ → Request → RequestReading
the_request station r = record { number = 0; position = 0; station = station; request = Some r }

-- refused: the number and the position
abbrev pub no_request : ℕ → ℕ → RequestReading
no_request n p = record { number = n; position = p; station = 0; request = None }

-- the number, the position and the values of each case of the code's answer
abbrev pub asked_values : Result Asked Refused → RequestReading
asked_values (Ok a) = the_request a.station a.request
asked_values (Err e) = no_request (number_of e.refusal) e.position

-- 9 to 12 of the body of a station's frame, which is a slice
abbrev pub from_station : List ℕ → ℕ → Judged → RequestReading
from_station slice station (judged.Accepted r) = the_request station r
from_station slice station (judged.Refused n store) = no_request n (body_position slice n)

-- 2 to 7, then those
abbrev pub request_in : List ℕ → Reading → RequestReading
request_in slice o =
    cond (eqb o.number 0) (from_station slice o.station (read_body o.body))
    (no_request o.number (frame_position slice o.number))

-- a slice read as a request
unfoldable pub read_request : List ℕ → RequestReading
read_request s = request_in s (read_frame s)

-- ---- writing

-- what a writer and serving give: a refusal number, the position where a slice is wrong, 0 where there is none to tell,
-- and the bytes of the frame, none where there is none
pub record Message : Type 0 where
  pub number : ℕ
  pub position : ℕ
  pub bytes : List ℕ

-- a writer has no slice
abbrev pub message : ℕ → List ℕ → Message
message n bytes = record { number = n; position = 0; bytes = cond (eqb n 0) bytes [] }

-- what is returned of a refusal, with which nothing is written
abbrev pub unsent : ℕ → ℕ → Sent
unsent n position = record { number = n; length = 0; position = position }

-- what a writer returned, by numbers: the length of the frame, or the refusal
abbrev pub sent_by : Result ℕ Refusal → Sent
sent_by (Ok n) = record { number = 0; length = n; position = 0 }
sent_by (Err e) = unsent (number_of e) 0

-- the area holds the message's bytes at its front, and is untouched past them
pub record Wrote (m : Message) (before : List ℕ) (sent : Sent) (after : List ℕ) : Type 0 where
  pub number : sent.number ≡ m.number
  pub position : sent.position ≡ m.position
  pub length_is : sent.length ≡ length m.bytes
  pub fits : length m.bytes ≤ length before
  pub area : after ≡ sets before 0 m.bytes

-- 1 ROOM, then 7, 11, 12
unfoldable pub write_request : ℕ → ℕ → Request → Message
write_request room station r =
    message (cond (ltb room 64) 1 (judge_asked station r)) (frame_of station (body_text (parts_of r)))

-- 1 ROOM, then 7, 11, 12 of the request, then 12 of what the reply carries
unfoldable pub judge_reply : ℕ → ℕ → Request → Outcome → ℕ
judge_reply room station r o =
    cond (ltb room 64) 1
    (cond (eqb (judge_asked station r) 0) (judge_outcome (rule_for r) (parts_of r).number o) (judge_asked station r))

unfoldable pub write_reply : ℕ → ℕ → Request → Outcome → Message
write_reply room station r o = message (judge_reply room station r o) (frame_of station (outcome_text (rule_for r).store o))

-- ---- reading a reply: 7, 11, 12 of the request, 2 to 7 of the slice, then 15

-- what reading a reply hands back: the refusal number, 0 for none; the position where the slice is wrong, 0 where there
-- is none to tell; the data or the status, none where refused
pub record ReplyReading : Type 0 where
  pub number : ℕ
  pub position : ℕ
  pub outcome : Option Outcome

-- accepted
abbrev pub the_outcome : Outcome → ReplyReading
the_outcome o = record { number = 0; position = 0; outcome = Some o }

-- refused: the number and the position
abbrev pub no_outcome : ℕ → ℕ → ReplyReading
no_outcome n p = record { number = n; position = p; outcome = None }

-- the number, the position and the values of each case of the code's answer
abbrev pub answered_values : Result Outcome Refused → ReplyReading
answered_values (Ok o) = the_outcome o
answered_values (Err e) = no_outcome (number_of e.refusal) e.position

-- a body that carries nothing is no reply to that request
abbrev pub from_carried : Option Outcome → ReplyReading
from_carried (Some o) = the_outcome o
from_carried None = no_outcome 15 0

-- 15 REPLY: not the asked station, or not a reply to that request
abbrev pub reply_in : List ℕ → Reading → ℕ → Request → ReplyReading
reply_in slice o station r =
    cond (eqb o.number 0)
    (cond (eqb o.station station) (from_carried (read_outcome (rule_for r) (parts_of r).number o.body)) (no_outcome 15 0))
    (no_outcome o.number (frame_position slice o.number))

-- 7, 11, 12 of the request, then those of the slice
unfoldable pub read_reply : List ℕ → ℕ → Request → ReplyReading
read_reply s station r =
    cond (eqb (judge_asked station r) 0) (reply_in s (read_frame s) station r) (no_outcome (judge_asked station r) 0)
