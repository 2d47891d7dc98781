-- End to end: a typed request is written, the box serves it, and its reply is read.
use Rattle.std.specs.Prelude.{ℕ, ◌≤◌, ◌≡◌, true, List, get_or}
use Rattle.commands.specs.declared.request.Request.{Request}
use Rattle.commands.specs.declared.request.Request.TheVariants as request
use Rattle.replies.specs.declared.reply.Outcome.{Outcome}
use Rattle.replies.specs.declared.reply.Outcome.TheVariants as outcome
use Rattle.replies.specs.Reply.{number_in}
use Rattle.harl.specs.Message.{write_request, the_outcome, read_reply}
use Rattle.model.specs.Call.{Call, serve}
use Rattle.model.specs.Box.{Box, setup, after, answer, run}
use Rattle.model.specs.Lone.{Arm, holds, replaced}
use Rattle.model.specs.Addressed.{Fitted, arm_of}
use Rattle.model.specs.Ranges.{bring_bytes}

-- what an arm answers: what is held for an LN, which for a step is its texts as last stored, or EMPTY; done for an SN
abbrev pub outcome_of : Arm → Request → Outcome
outcome_of a (request.Load l) = holds a l
outcome_of a (request.Store q) = outcome.Status 0

-- the arm afterwards: as it was for an LN, with the data for an SN
abbrev pub arm_after : Arm → Request → Arm
arm_after a (request.Load l) = a
arm_after a (request.Store q) = replaced a q

-- call c brings request r to slot k, whose arm has station s
pub record Exchanged (b : Box) (k s : ℕ) (r : Request) (c : Call) : Type 0 where
  -- it is not refused, but with 16 for a step never written
  pub number : (answer b c).number ≡ number_in (outcome_of (arm_of k b) r)
  -- its reply is read as what the arm answers
  pub reply : read_reply (answer b c).reply s r ≡ the_outcome (outcome_of (arm_of k b) r)
  -- the arm keeps what is stored
  pub arm : arm_of k (after b c) ≡ arm_after (arm_of k b) r

-- after any setup and any list of calls that bring bytes, for every fitted slot and every request that can be written
-- to its station; area and room are the lengths of the areas for the request and the reply (proved in proofs/EndToEnd.antt)
abbrev pub EndToEnd : Type 0
EndToEnd =
    (want m : List ℕ) (cs : List Call) (k : ℕ) (r : Request) (area room : ℕ)
    → bring_bytes cs ≡ true
    → Fitted k (setup want m).stations
    → (write_request area (get_or (setup want m).stations k 0) r).number ≡ 0
    → 64 ≤ room
    → Exchanged (run (setup want m) cs) k (get_or (setup want m).stations k 0) r
    (serve (write_request area (get_or (setup want m).stations k 0) r).bytes room)
