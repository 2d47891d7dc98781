-- The invariant: what is left of the text, written at `end` of the area as it is now and taken into its sum, gives what
-- all of it gives.
use Prim.Native.Nat.{ℕ}
use mathlib.Core.List.{List, map}
use lib.ListN.{drop}
use Rattle.text.proofs.Parts.{Left}
use Rattle.frame.specs.Fields.{following}
use Rattle.steps.specs.declared.texts.Text.{Text}
use Rattle.steps.specs.Text.{chars_of}
use Rattle.steps.specs.Step.{up_to}
use Rattle.steps.proofs.step.put_step.Given as goal

-- ---- the characters of data, each after one SP

abbrev pub data_text : List Text → List ℕ
data_text ts = following (map chars_of (up_to (map (λ t. t.0) ts)))

abbrev pub invariant-loop-datum : goal.invariant-loop-datum
invariant-loop-datum l = Left l.initial.area l.initial.end (data_text l.datum-items) l.area l.end (data_text (drop l.datum-index l.datum-items))
