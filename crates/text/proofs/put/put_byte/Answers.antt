use borrow.Author.Rules.{rules}
use Rattle.text.specs.Put.{xor_onto}
use Rattle.text.proofs.put.put_byte.Goals as goal

pub returns : goal.returns
unfolding xor_onto
returns c =
    search rules
