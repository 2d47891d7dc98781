-- The lines of a whole input, and that `cell` prints the answers to them however the input is cut (proved in
-- proofs/WholeInput.antt).
use Rattle.std.specs.Prelude.{ℕ, ◌≡◌, cond, eqb}
use mathlib.Core.List.{List, [], ◌∷◌, ◌++◌, flatten}
use Rattle.model.specs.Box.{Box}
use Rattle.answers.specs.Answers.{line_answer, box_after}
use Rattle.stream.specs.Cell.{Cell, taken_all, finished}

-- ---- the lines of an input

-- b at the front of the first line; a line of its own where there is none
unfoldable pub prepend : ℕ → List (List ℕ) → List (List ℕ)
prepend b [] = (b ∷ []) ∷ []
prepend b (l ∷ ls) = (b ∷ l) ∷ ls

-- each LF ends a line, which may be empty; what stands after the last LF is a line if it is not empty
unfoldable pub lines_of : List ℕ → List (List ℕ)
lines_of [] = []
lines_of (b ∷ bs) = cond (eqb b 10) ([] ∷ lines_of bs) (prepend b (lines_of bs))

-- the answers to lines, one after the other, each line given the box as the last one left it
unfoldable pub line_answers : Box → List (List ℕ) → List ℕ
line_answers b [] = []
line_answers b (l ∷ ls) = line_answer b l ++ line_answers (box_after b l) ls

-- the box that lines leave
unfoldable pub box_after_all : Box → List (List ℕ) → Box
box_after_all b [] = b
box_after_all b (l ∷ ls) = box_after_all (box_after b l) ls

-- ---- the input in parts

-- before any input
abbrev pub at_start : Box → Cell
at_start b = record { box = b; line = []; output = [] }

-- the output that waits was written
abbrev pub cleared : Cell → Cell
cleared c = record { box = c.box; line = c.line; output = [] }

-- what is printed: the output that waits after each part, then what waits at the input's end
unfoldable pub printed : Cell → List (List ℕ) → List ℕ
printed c [] = (finished c).output
printed c (p ∷ ps) = (taken_all c p).output ++ printed (cleared (taken_all c p)) ps

-- the box at the input's end
unfoldable pub last_box : Cell → List (List ℕ) → Box
last_box c [] = (finished c).box
last_box c (p ∷ ps) = last_box (cleared (taken_all c p)) ps

-- in whatever parts the input comes, the answers to its lines are printed, and the box is the one that they leave
abbrev pub WholeInput : Type 0
WholeInput = (b : Box) (parts : List (List ℕ)) → (printed (at_start b) parts ≡ line_answers b (lines_of (flatten parts))) × (last_box (at_start b) parts ≡ box_after_all b (lines_of (flatten parts)))
