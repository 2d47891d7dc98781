-- What is written reads back as itself, converted (proved in proofs/Back.antt).
use Rattle.std.specs.Prelude.{ℕ, ◌≡◌}
use Rattle.commands.specs.declared.request.Request.{Request}
use Rattle.replies.specs.declared.reply.Outcome.{Outcome}
use Rattle.harl.specs.Message.{read_reply, write_reply}
use Rattle.readings.specs.Convert.{convert_outcome}
use Rattle.readings.specs.Reply.{accepted, converted}

-- every reply that can be written, given its request
abbrev pub ConvertedReadsBack : Type 0
ConvertedReadsBack =
    (room station : ℕ) (r : Request) (o : Outcome)
    → (write_reply room station r o).number ≡ 0
    → converted (read_reply (write_reply room station r o).bytes station r) ≡ accepted (convert_outcome o)
