-- The measure: the bytes that are left of the arrival.
use lib.ListN.{length}
use Rattle.cuts.proofs.each_slice.Given as goal

abbrev pub invariant-loop-rest : goal.invariant-loop-rest
invariant-loop-rest g l = goal.F-IsAlwaysCallable g l.found

abbrev pub decreases-loop-rest : goal.decreases-loop-rest
decreases-loop-rest g l = length l.rest
