-- Where a test before the last fails, the line's last characters are not read, and it is no call either.
use Rattle.std.proofs.Common.{ltb, sym, ◌∙◌, rules, tests}
use borrow.Author.Tests.{le-leb, lt-leb}
use Rattle.std.proofs.lemmas.Iterator.{YieldsList-from_slice}
use Rattle.std.proofs.lemmas.Iterator.Search.{all_from_yields_List}
use Rattle.lines.specs.Lines.{value, is_call}
use Rattle.lines.proofs.Laws.{capitals_all}
use Rattle.lines.proofs.reader.is_call.Goals as goal
use Rattle.lines.proofs.reader.is_call.Goals.{then-line-le-MOST_DIGITS, else-line-le-MOST_DIGITS}

pub returns-then-line-eq0 : goal.returns-then-line-eq0
unfolding is_call
returns-then-line-eq0 c =
    let e = all_from_yields_List (λ b. ltb (value b) 16) _ _ c.all.result c.all.ensures.ran (YieldsList-from_slice c.args.line.now cc) (λ x b q k. search (rules, tests)) in
    elim c.if-line-le-MOST_DIGITS.branch [
      | then-line-le-MOST_DIGITS w ↦ simp (le-leb _ _ w.if-line-le-MOST_DIGITS.true, sym w.value-is ∙ c.if-line-eq0.true) (e ∙ capitals_all c.args.line.now)
      | else-line-le-MOST_DIGITS w ↦ let n = lt-leb _ _ w.if-line-le-MOST_DIGITS.false in cc
    ]

pub returns-else-line-eq0 : goal.returns-else-line-eq0
unfolding is_call
returns-else-line-eq0 c =
    elim c.if-line-le-MOST_DIGITS.branch [
      | then-line-le-MOST_DIGITS w ↦ simp (le-leb _ _ w.if-line-le-MOST_DIGITS.true, sym w.value-is, c.if-line-eq0.false)
      | else-line-le-MOST_DIGITS w ↦ simp (lt-leb _ _ w.if-line-le-MOST_DIGITS.false, c.if-line-eq0.false)
    ]
