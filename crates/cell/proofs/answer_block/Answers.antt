use Rattle.std.proofs.Common.{◌<◌, length, ◌∙◌, arith, rules}
use Rattle.stream.proofs.Laws.{part_length, still_same}
use Rattle.cell.proofs.Laws.{part_more, part_some, room_made, block_end}
use Rattle.cell.proofs.answer_block.Goals as goal

pub loop-rest-smaller : goal.loop-rest-smaller
loop-rest-smaller c =
    let h : 0 < length c.loop-rest.rest.now = search rules in
    omega (arith, h, part_length c.loop-rest.rest.now c.take_block-taken.result, part_some c.loop-rest.ready.buffers c.take_block-taken.new.self c.loop-rest.ready.room h (search rules) c.take_block-taken.ensures.took c.take_block-taken.ensures.all_or_full)

pub loop-rest-preserved : goal.loop-rest-preserved
loop-rest-preserved c =
    let more = part_more c.loop-rest.rest.now c.loop-rest.invariant.taken c.take_block-taken.ensures.took in
    record {
      taken = room_made _ _ c.take_block-taken.new.self.output _ c.take_block-taken.new.self.waiting c.make_room-buffers.ensures.0 more;
      same_tables = still_same c.loop-rest.invariant.same_tables c.take_block-taken.ensures.same_tables;
      same_length = c.take_block-taken.auto.programs ∙ c.loop-rest.invariant.same_length;
    }

pub returns-clause-block_taken : goal.returns-clause-block_taken
returns-clause-block_taken c =
    block_end c.loop-rest.rest.now (search rules) c.loop-rest.invariant.taken
