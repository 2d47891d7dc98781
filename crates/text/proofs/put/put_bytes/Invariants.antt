-- The invariant: the bytes passed are written, and taken into the sum.
use Rattle.std.proofs.Common.{take}
use Rattle.text.specs.Put.{Put}
use Rattle.text.proofs.put.put_bytes.Given as goal

abbrev pub invariant-loop-b : goal.invariant-loop-b
invariant-loop-b l = Put l.initial.area l.fn.to (take l.b-index l.s) l.end l.area
