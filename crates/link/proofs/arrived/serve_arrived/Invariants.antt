-- The invariant: i bytes are served, and a reply to each byte that is left has room; the tables and the state are the ones lent.
use Rattle.std.proofs.Common.{◌+◌, ◌*◌, ◌-◌, ◌≤◌, length, take}
use Rattle.receiver.specs.Receive.{held_in, SameState}
use Rattle.tables.specs.Arms.{tables_of, SameTables}
use Rattle.model.specs.Box.{box}
use Rattle.link.specs.Served.{LineServed}
use Rattle.link.proofs.arrived.serve_arrived.Given as goal

abbrev pub invariant-loop-i : goal.invariant-loop-i
invariant-loop-i l = record {
  bound : l.i ≤ length l.arrived;
  room : l.at + 64 * (length l.arrived - l.i) ≤ length l.out;
  served : LineServed (box l.stations (tables_of l.initial.arms l.initial.programs)) (held_in l.initial.receiver.held.now l.initial.receiver.count.now) (take l.i l.arrived) l.initial.out 0 l.at l.out (tables_of l.arms l.programs) (held_in l.receiver.held.now l.receiver.count.now);
  same_tables : SameTables l.initial.arms l.arms;
  same_state : SameState l.initial.receiver l.receiver;
}

abbrev pub decreases-loop-i : goal.decreases-loop-i
decreases-loop-i l = length l.arrived - l.i
