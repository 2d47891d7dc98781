use Rattle.std.proofs.Common.{rules, arith}
use Rattle.receiver.proofs.Got.{got_is}
use Rattle.link.proofs.Laws.{none_served, one_served}
use Rattle.link.proofs.arrived.serve_next.Goals as goal

pub returns-in_default-slice-clause-line_served : goal.returns-in_default-slice-clause-line_served
returns-in_default-slice-clause-line_served c =
    let g = got_is c.args.receiver.now.held.now c.args.receiver.now.count.now c.args.arrived.now _ (omega arith) c.in-Ok.ensures.received in
    none_served (g.no_slice (search rules)) g.held_is

pub returns-in_default-slice-clause-taken_in_bounds :
    goal.returns-in_default-slice-clause-taken_in_bounds
returns-in_default-slice-clause-taken_in_bounds c =
    let g = got_is c.args.receiver.now.held.now c.args.receiver.now.count.now c.args.arrived.now _ (omega arith) c.in-Ok.ensures.received in
    (g.within, g.some)

pub returns-clause-line_served : goal.returns-clause-line_served
returns-clause-line_served c =
    let g = got_is c.args.receiver.now.held.now c.args.receiver.now.count.now c.args.arrived.now _ (omega arith) c.in-Ok.ensures.received in
    one_served c.args.out.now c.args.at c.requires c.serve-sent.ensures.served (rw c.in-Some.is at (g.slice (search rules))) g.held_is

pub returns-clause-taken_in_bounds : goal.returns-clause-taken_in_bounds
returns-clause-taken_in_bounds c =
    let g = got_is c.args.receiver.now.held.now c.args.receiver.now.count.now c.args.arrived.now _ (omega arith) c.in-Ok.ensures.received in
    (g.within, g.some)
