use borrow.Author.Rules.{rules}
use Rattle.text.specs.Whole.{digit}
use Rattle.text.proofs.whole.put_digit.Goals as goal

pub returns : goal.returns
unfolding digit
returns c =
    search rules
