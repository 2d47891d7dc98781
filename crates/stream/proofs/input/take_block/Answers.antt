use Rattle.std.proofs.Common.{◌∙◌}
use Rattle.stream.proofs.Laws.{still_same, part_within, part_taken}
use Rattle.stream.proofs.input.take_block.Goals as goal

pub loop-i-preserved : goal.loop-i-preserved
loop-i-preserved c =
    let took = c.take_line-part.ensures.took in
    record {
      taken_fits = part_within c.args.input.now c.loop-i.i c.loop-i.invariant.taken_fits took;
      within = c.take_line-part.ensures.within_after;
      state_is = part_taken _ c.args.input.now c.loop-i.i c.loop-i.invariant.state_is took;
      same_tables = still_same c.loop-i.invariant.same_tables c.take_line-part.ensures.same_tables;
      same_length = c.take_line-part.auto.programs ∙ c.loop-i.invariant.same_length;
    }
