-- The invariant: the state is that of the i bytes taken; the lent memory is as long as it was.
use Rattle.std.proofs.Common.{◌≡◌, ◌-◌, ◌≤◌, length, take}
use Rattle.tables.specs.Arms.{tables_of, SameTables}
use Rattle.stream.specs.Cell.{taken_all, cell_at, Within}
use Rattle.stream.proofs.input.take_block.Given as goal

abbrev pub invariant-loop-i : goal.invariant-loop-i
invariant-loop-i l = record {
  taken_fits : l.i ≤ length l.input;
  within : Within l.held l.out l.state;
  state_is : cell_at l.stations (tables_of l.arms l.programs) l.held l.out l.state ≡ taken_all (cell_at l.stations (tables_of l.initial.arms l.initial.programs) l.initial.held l.initial.out l.initial.state) (take l.i l.input);
  same_tables : SameTables l.initial.arms l.arms;
  same_length : length l.programs ≡ length l.initial.programs;
}

abbrev pub decreases-loop-i : goal.decreases-loop-i
decreases-loop-i l = length l.input - l.i
