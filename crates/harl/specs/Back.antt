-- What is written reads back as itself (proved in proofs/).
use Rattle.std.specs.Prelude.{ℕ, ◌≡◌}
use Rattle.commands.specs.declared.request.Request.{Request}
use Rattle.replies.specs.declared.reply.Outcome.{Outcome}
use Rattle.harl.specs.Message.{the_request, read_request, write_request, the_outcome, read_reply, write_reply}

-- every request that can be written
abbrev pub RequestsReadBack : Type 0
RequestsReadBack =
    (room station : ℕ) (r : Request)
    → (write_request room station r).number ≡ 0
    → read_request (write_request room station r).bytes ≡ the_request station r

-- every reply that can be written, given its request
abbrev pub RepliesReadBack : Type 0
RepliesReadBack =
    (room station : ℕ) (r : Request) (o : Outcome)
    → (write_reply room station r o).number ≡ 0
    → read_reply (write_reply room station r o).bytes station r ≡ the_outcome o
