-- The invariant: the bytes passed made the sum and the flag, and the rest is taken into both.
use mathlib.Core.Path.{◌≡◌}
use mathlib.Core.Bool.{◌||◌}
use lib.ListN.{drop}
use Rattle.text.specs.Put.{xor_onto}
use Rattle.frame.specs.Checksum.{lrc_of}
use Rattle.frame.specs.Frame.{is_stray}
use Rattle.frame.proofs.Pass.{some}
use Rattle.frame.proofs.reader.lrc_and_stray.Given as goal

abbrev pub invariant-loop-b : goal.invariant-loop-b
invariant-loop-b l = record {
  sum_left : lrc_of l.s ≡ xor_onto l.sum (drop l.b-index l.s);
  stray_left : some is_stray l.s ≡ (l.stray || some is_stray (drop l.b-index l.s));
}
