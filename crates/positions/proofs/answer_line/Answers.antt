-- The line of the answer fits its array, and ends in LF.
use Prim.Native.Nat.{ℕ, ◌+◌, ◌≤◌}
use mathlib.Core.List.{List}
use native.Mathlib.Omega.{arith}
use borrow.Author.Rules.{rules}
use lib.ListN.{length, take}
use lib.Seq.{length-take-le}
use Rattle.text.specs.Put.{PutAt}
use Rattle.gateway.proofs.Replies.{served_fits}
use Rattle.lines.specs.Lines.{answer_line}
use Rattle.lines.proofs.Laws.{answer_length, answer_short}
use Rattle.positions.proofs.answer_line.Goals as goal

line_fits : (n k : ℕ) (ys : List ℕ) → k ≤ length ys → k ≤ 64 → 0 + length (answer_line n (take k ys)) ≤ 132
line_fits n k ys h l = omega (arith, answer_short n (take k ys), length-take-le k ys h)

line_some : (n : ℕ) (reply : List ℕ) {xs ys : List ℕ} {r : ℕ} → PutAt xs 0 (answer_line n reply) r ys → 1 ≤ r
line_some n reply p = omega (arith, p.next, answer_length n reply)

pub put_answer-end-requires : goal.put_answer-end-requires
put_answer-end-requires g c =
    line_fits _ _ _ (search rules) (served_fits c.serve-sent.ensures.served)

pub overflow_sub-end : goal.overflow_sub-end
overflow_sub-end g c =
    line_some _ _ c.put_answer-end.ensures
