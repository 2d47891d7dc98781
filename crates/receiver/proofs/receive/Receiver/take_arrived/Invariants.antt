-- The invariant: the bytes passed are taken, and the rest is left to take.
use Prim.Native.Nat.{◌<◌}
use mathlib.Core.Path.{◌≡◌}
use lib.ListN.{length, take, drop}
use Rattle.receiver.specs.Receive.{taken, SameState}
use Rattle.receiver.proofs.Steps.{Going}
use Rattle.receiver.proofs.receive.Receiver.take_arrived.Given as goal

abbrev pub invariant-loop-i : goal.invariant-loop-i
invariant-loop-i l = record {
  fits : l.n < 255;
  long : length l.self.held.now ≡ 255;
  area_is : l.area ≡ l.initial.area;
  going : Going (taken l.initial.self.held.now (take l.initial.n l.initial.self.held.now) l.arrived) l.i (taken l.self.held.now (take l.n l.self.held.now) (drop l.i l.arrived));
  same_state : SameState l.initial.self l.self;
}
