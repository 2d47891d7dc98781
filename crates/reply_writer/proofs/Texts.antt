-- How long the bodies of typed replies are.
use Prim.Native.Nat.{◌≤◌}
use mathlib.Core.Bool.{Bool}
use native.Mathlib.Omega.{arith}
use lib.ListN.{length}
use Rattle.replies.specs.declared.reply.Outcome.{Outcome}
use Rattle.replies.specs.declared.reply.Outcome.TheVariants as outcome
use Rattle.replies.specs.Reply.{content_of}
use Rattle.replies.proofs.Texts.{status_length, content_length}
use Rattle.reply_writer.specs.Writer.{outcome_text}

pub outcome_length : (store : Bool) (o : Outcome) → (1 ≤ length (outcome_text store o)) × (length (outcome_text store o) ≤ 56)
unfolding outcome_text
outcome_length store (outcome.Data d) = content_length (content_of d)
outcome_length store (outcome.Status n) =
    let l = status_length store n in
    (l.0, omega arith)
