-- Texts and steps there and back (proved in proofs/Back.antt).
use Rattle.std.specs.Prelude.{ℕ, ◌≡◌, true, List, Some}
use Rattle.frame.specs.Fields.{fields}
use Rattle.steps.specs.declared.texts.Text.{Text}
use Rattle.steps.specs.declared.step.Step.{Step}
use Rattle.steps.specs.Text.{chars_of, is_text, read_text, text}
use Rattle.steps.specs.Step.{texts_of, typed_of, is_step, read_step, step_text}

-- a field that reads as a text is written as it was
abbrev pub FieldWritesBack : Type 0
FieldWritesBack = (s : List ℕ) (t : Text) → read_text s ≡ Some t → chars_of t.0 ≡ s

-- what is read is a text
abbrev pub ReadIsText : Type 0
ReadIsText = (s : List ℕ) (t : Text) → read_text s ≡ Some t → is_text t.0 ≡ true

-- a text, written, reads as itself
abbrev pub TextReadsBack : Type 0
TextReadsBack = (n : ℕ) → is_text n ≡ true → read_text (chars_of n) ≡ Some (text n)

-- what is read is a step
abbrev pub ReadIsStep : Type 0
ReadIsStep = (fs : List (List ℕ)) (s : Step) → read_step fs ≡ Some s → is_step s ≡ true

-- a step, written, reads as itself
abbrev pub StepReadsBack : Type 0
StepReadsBack = (s : Step) → is_step s ≡ true → read_step (fields (step_text s)) ≡ Some s

-- a step is its texts
abbrev pub TextsBack : Type 0
TextsBack = (s : Step) → is_step s ≡ true → typed_of (texts_of s) ≡ s
