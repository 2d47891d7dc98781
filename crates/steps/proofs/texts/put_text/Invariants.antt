-- The invariant: the characters that are left, written at the area as it is now and taken into the sum as it is now, give
-- what all of them give.
use lib.ListN.{drop}
use Rattle.text.proofs.Parts.{Left}
use Rattle.steps.specs.Text.{chars_of}
use Rattle.steps.proofs.Laws.{leading}
use Rattle.steps.proofs.texts.put_text.Given as goal

abbrev pub invariant-loop-b : goal.invariant-loop-b
invariant-loop-b l = Left l.initial.area l.initial.end (chars_of l.fn.t.0) l.area l.end (leading (drop l.b-index l.b-items))
