-- How long what is written is: less than the 64 bytes that every writer asks for (proved in proofs/Lengths.antt). Both
-- lengths are reached, by five texts of eight characters under step 255 at station 99 (`Worked`, crates/model).
use Rattle.std.specs.Prelude.{ℕ, ◌≤◌, length}
use Rattle.commands.specs.declared.request.Request.{Request}
use Rattle.replies.specs.declared.reply.Outcome.{Outcome}
use Rattle.harl.specs.Message.{write_request, write_reply}

-- no request has more than 58 bytes
abbrev pub RequestsShort : Type 0
RequestsShort = (room station : ℕ) (r : Request) → length (write_request room station r).bytes ≤ 58

-- no reply has more than 54
abbrev pub RepliesShort : Type 0
RepliesShort = (room station : ℕ) (r : Request) (o : Outcome) → length (write_reply room station r o).bytes ≤ 54
