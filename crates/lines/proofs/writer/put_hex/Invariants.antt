-- The invariant: what is left of s, written at p of the area as it is now, gives what all of s gives.
use Rattle.std.proofs.Common.{◌≡◌, ◌+◌, length, drop}
use Rattle.std.proofs.lemmas.List.Edits.{sets}
use Rattle.lines.specs.Lines.{hex_text}
use Rattle.lines.proofs.writer.put_hex.Given as goal

abbrev pub invariant-loop-b : goal.invariant-loop-b
invariant-loop-b l = record {
  place : l.at + length (hex_text l.s) ≡ l.p + length (hex_text (drop l.b-index l.s));
  written : sets l.initial.out l.at (hex_text l.s) ≡ sets l.out l.p (hex_text (drop l.b-index l.s));
}
