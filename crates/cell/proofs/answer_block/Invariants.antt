-- The invariant: the rest, taken from here on, ends the block; the lent memory is as long as it was.
use Rattle.std.proofs.Common.{◌≡◌, length}
use Rattle.tables.specs.Arms.{tables_of, SameTables}
use Rattle.stream.specs.Cell.{cell_of, taken_all}
use Rattle.cell.specs.Block.{BlockTaken}
use Rattle.cell.proofs.answer_block.Given as goal

abbrev pub invariant-loop-rest : goal.invariant-loop-rest
invariant-loop-rest l = record {
  taken : BlockTaken (cell_of l.stations (tables_of l.initial.arms l.initial.programs) l.initial.ready.buffers) l.input (taken_all (cell_of l.stations (tables_of l.arms l.programs) l.ready.buffers) l.rest);
  same_tables : SameTables l.initial.arms l.arms;
  same_length : length l.programs ≡ length l.initial.programs;
}

abbrev pub decreases-loop-rest : goal.decreases-loop-rest
decreases-loop-rest l = length l.rest
