-- The invariant: the bytes that the iterator has passed are characters, and n is these, packed.
use Rattle.std.specs.Iterator.Adapters.{rev_source}
use Rattle.std.specs.Slice.Iter.{iter_rest}
use Rattle.steps.proofs.Laws.{Packed}
use Rattle.steps.proofs.texts.read_packed.Given as goal

abbrev pub invariant-loop-b : goal.invariant-loop-b
invariant-loop-b l = Packed l.field (iter_rest (rev_source l.b-iterator)) l.n
