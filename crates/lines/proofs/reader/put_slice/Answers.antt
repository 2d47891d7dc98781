use Rattle.std.proofs.Common.{◌≡◌, ◌+◌, ◌*◌, length, sym, ap, ◌∙◌, add-one, arith}
use Rattle.lines.proofs.Laws.{call_is, digit_at, slice_more, slice_end}
use Rattle.lines.proofs.reader.put_slice.Goals as goal

pub overflow_mul-slice : goal.overflow_mul-slice
overflow_mul-slice c =
    let k = call_is c.args.line.now c.requires in
    omega (arith, digit_at c.args.line.now k.digits (2 * c.loop-i.i) (omega arith))

pub overflow_add-slice : goal.overflow_add-slice
overflow_add-slice c =
    let k = call_is c.args.line.now c.requires in
    omega (arith, digit_at c.args.line.now k.digits (2 * c.loop-i.i) (omega arith), digit_at c.args.line.now k.digits (2 * c.loop-i.i + 1) (omega arith))

pub bounds-slice-i : goal.bounds-slice-i
bounds-slice-i c =
    let k = call_is c.args.line.now c.requires in
    omega arith

pub loop-i-preserved : goal.loop-i-preserved
loop-i-preserved c =
    let e : 2 * c.loop-i.i + 2 ≡ 2 * (c.loop-i.i + 1) = omega arith in
    let m = rw e at (slice_more c.args.line.now (2 * c.loop-i.i) (omega arith)) in
    record {
      count = omega (arith, c.loop-i.invariant.count, ap length m);
      written = c.loop-i.invariant.written ∙ rw (m, c.value_of.ensures, c.value_of-in-loop-i.ensures, add-one c.loop-i.i);
    }

pub returns : goal.returns
returns c =
    let k = call_is c.args.line.now c.requires in
    let e = slice_end c.args.line.now (2 * c.loop-i.i) (omega arith) in
    record { value = (omega (arith, ap length e, c.loop-i.invariant.count), omega arith); slice_after = sym (c.loop-i.invariant.written ∙ rw e) }
