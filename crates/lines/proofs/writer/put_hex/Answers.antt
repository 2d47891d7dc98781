use Rattle.std.proofs.Common.{◌≡◌, suc, ◌+◌, length, sym, ap, ◌∙◌, add-one, arith}
use lib.ListN.{length-set}
use Rattle.lines.proofs.Laws.{hex_more, hex_end}
use Rattle.lines.proofs.writer.put_hex.Goals as goal

pub bounds-out-p : goal.bounds-out-p
bounds-out-p c =
    let m = hex_more c.args.s.now c.loop-b.b-index (omega arith) in
    omega (arith, c.loop-b.invariant.place, ap length m)

pub bounds-out-p-in-loop-b : goal.bounds-out-p-in-loop-b
bounds-out-p-in-loop-b c =
    let m = hex_more c.args.s.now c.loop-b.b-index (omega arith) in
    simp length-set (omega (arith, c.loop-b.invariant.place, ap length m))

pub loop-b-preserved : goal.loop-b-preserved
loop-b-preserved c =
    let m = hex_more c.args.s.now c.loop-b.b-index (omega arith) in
    let e : c.loop-b.p + 2 ≡ suc (suc c.loop-b.p) = omega arith in
    record {
      place = omega (arith, c.loop-b.invariant.place, ap length m);
      written = c.loop-b.invariant.written ∙ rw (m, c.capital_of-in-loop-b.ensures, c.capital_of.ensures, e, add-one c.loop-b.p);
    }

pub returns : goal.returns
returns c =
    let e = hex_end c.args.s.now c.loop-b.b-index (omega arith) in
    record { next = omega (arith, ap length e, c.loop-b.invariant.place); area = sym (c.loop-b.invariant.written ∙ rw e) }
