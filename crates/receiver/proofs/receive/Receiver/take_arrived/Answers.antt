-- Each way on goes by what the byte taken did.
use Rattle.std.proofs.Common.{◌≡◌, length, take, rules, arith}
use Rattle.text.specs.Put.{PutAt}
use Rattle.text.proofs.Laws.{put_at}
use Rattle.receiver.proofs.Steps.{go_on, stop, run_out, with_slice, without_slice}
use Rattle.receiver.proofs.receive.Receiver.take_arrived.Goals as goal

pub returns-in-Finished-clause-received : goal.returns-in-Finished-clause-received
returns-in-Finished-clause-received c =
    let z : length c.take_byte.new.held ≡ 255 = search rules in
    let g = stop c.loop-i.self.held.now c.args.arrived.now c.loop-i.n c.loop-i.i c.loop-i.invariant.going (omega arith) c.in-Finished.length c.in-Finished.ensures in
    let p : PutAt c.args.area.now 0 (take c.in-Finished.length c.take_byte.new.held) _ _ = rw c.loop-i.invariant.area_is at (put_at c.put_bytes.ensures) in
    rw (← c.standing_of-n.ensures.0) (with_slice c.requires z c.in-Finished.ensures.fits g p)

pub loop-i-preserved : goal.loop-i-preserved
loop-i-preserved c = record {
  fits = omega (arith, c.in-Held.ensures.held_fits);
  long = search rules;
  area_is = c.loop-i.invariant.area_is;
  going = go_on c.loop-i.self.held.now c.args.arrived.now c.loop-i.n c.loop-i.i c.loop-i.invariant.going (omega arith) c.in-Held.more c.in-Held.ensures;
  same_state = search rules;
}

pub returns-clause-received : goal.returns-clause-received
returns-clause-received c =
    let e : c.loop-i.i ≡ length c.args.arrived.now = omega arith in
    let g = run_out c.loop-i.self.held.now c.args.arrived.now c.loop-i.n c.loop-i.i c.loop-i.invariant.going (omega arith) in
    rw (← c.standing_of-n.ensures.0, ← e, c.loop-i.invariant.area_is) (without_slice c.requires c.loop-i.invariant.long c.loop-i.invariant.fits g)
