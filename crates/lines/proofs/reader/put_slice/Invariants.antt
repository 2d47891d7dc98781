-- The invariant: what is left of the line, written at i of the lent bytes as they are now, gives what all of it gives.
use Rattle.std.proofs.Common.{◌≡◌, ◌+◌, ◌*◌, length, drop}
use Rattle.std.proofs.lemmas.List.Edits.{sets}
use Rattle.lines.specs.Lines.{slice_of}
use Rattle.lines.proofs.reader.put_slice.Given as goal

abbrev pub invariant-loop-i : goal.invariant-loop-i
invariant-loop-i l = record {
  count : length (slice_of l.line) ≡ l.i + length (slice_of (drop (2 * l.i) l.line));
  written : sets l.initial.slice 0 (slice_of l.line) ≡ sets l.slice l.i (slice_of (drop (2 * l.i) l.line));
}
