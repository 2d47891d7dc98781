-- The bytes before LF, which the search found, are part of the line.
use Rattle.std.proofs.Common.{◌<◌, ◌≤◌, length, take, sym, ap, ◌∙◌, arith}
use Rattle.stream.specs.Cell.{ended}
use Rattle.stream.proofs.Laws.{found_no_feed, found_feed, line_grown, taken_next, taken_end}
use Rattle.stream.proofs.input.take_line.Goals as goal

pub returns-then-n-input-clause-took : goal.returns-then-n-input-clause-took
returns-then-n-input-clause-took c =
    let e = rw (c.front.ensures.text, c.front.ensures.first) at c.find-n.ensures.0 in
    record {
      within = omega (arith, c.if-n-input.true);
      state_is = line_grown c.requires.within (take c.find-n.result c.args.input.now) (found_no_feed c.args.input.now c.find-n.result e) (rw c.front-2.ensures at c.take_bytes.ensures.0);
    }

pub returns-clause-took : goal.returns-clause-took
returns-clause-took c =
    let e = rw (c.front.ensures.text, c.front.ensures.first) at c.find-n.ensures.0 in
    let m : c.find-n.result ≤ length c.args.input.now = rw c.front.ensures.text at c.find-n.ensures.1 in
    let h : c.find-n.result < length c.args.input.now = omega (arith, m, c.if-n-input.false) in
    let g = line_grown c.requires.within (take c.find-n.result c.args.input.now) (found_no_feed c.args.input.now c.find-n.result e) (rw c.front-2.ensures at c.take_bytes.ensures.0) in
    record {
      within = omega arith;
      state_is = c.end_line.ensures.result_after ∙ ap ended g ∙ sym (taken_next _ c.args.input.now c.find-n.result h ∙ taken_end _ _ (found_feed c.args.input.now c.find-n.result e h));
    }
