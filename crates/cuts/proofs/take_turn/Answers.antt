-- An area of 255 bytes is enough, so a call takes something of what has arrived, and no more than that.
use native.Mathlib.Omega.{arith}
use borrow.Author.Rules.{rules}
use Rattle.receiver.proofs.Got.{got_is}
use Rattle.cuts.proofs.take_turn.Goals as goal

pub returns : goal.returns
returns c =
    let g = got_is _ _ _ _ (search rules) c.in-Ok.ensures.received in omega (arith, g.within, g.some (search rules))
