-- The invariant: n packs the characters at the front of the bytes that the iterator has passed.
use Rattle.std.specs.Iterator.Adapters.{rev_source}
use Rattle.std.specs.Slice.Iter.{iter_rest}
use Rattle.programs.proofs.Laws.{Read}
use Rattle.programs.proofs.memory.text_at.Given as goal

abbrev pub invariant-loop-b : goal.invariant-loop-b
invariant-loop-b l = Read l.programs l.at (iter_rest (rev_source l.b-iterator)) l.n
