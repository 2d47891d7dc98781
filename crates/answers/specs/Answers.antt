-- What a line of `cell` does to the box, and the line that answers it (document 01, "Checked examples").
use Rattle.std.specs.Prelude.{ℕ, ◌+◌, ◌≤◌, ◌≡◌, cond, List}
use Rattle.text.specs.Put.{PutAt}
use Rattle.tables.specs.Tables.{Tables}
use Rattle.model.specs.Call.{Call, serve, Answer}
use Rattle.model.specs.Box.{Box, after, answer}
use Rattle.lines.specs.Lines.{is_call, slice_of, answer_line, no_call_line}

-- a slice is served with a reply area of 64 bytes
abbrev pub line_call : List ℕ → Call
line_call slice = serve slice 64

-- an answer as its line
abbrev pub as_line : Answer → List ℕ
as_line a = answer_line a.number a.reply

-- the line that answers a line
unfoldable pub line_answer : Box → List ℕ → List ℕ
line_answer b line = cond (is_call line) (as_line (answer b (line_call (slice_of line)))) no_call_line

-- the box that a line leaves: as it was where the line is no call
unfoldable pub box_after : Box → List ℕ → Box
box_after b line = cond (is_call line) (after b (line_call (slice_of line))) b

-- one call answered: xs is the output before and ys after, r the index after the last byte, t the tables after
pub record CallAnswered (b : Box) (slice xs : List ℕ) (at r : ℕ) (ys : List ℕ) (t : Tables) : Type 0 where
  -- the line of the model's answer was put
  pub answer_is : PutAt xs at (as_line (answer b (line_call slice))) r ys
  -- the tables are those that the call leaves
  pub tables_are : t ≡ (after b (line_call slice)).tables
  -- two digits, a space, a reply of 64 bytes, LF
  pub short : r ≤ at + 132

-- one line answered, likewise
pub record LineAnswered (b : Box) (line xs : List ℕ) (at r : ℕ) (ys : List ℕ) (t : Tables) : Type 0 where
  -- the line of the answer was put
  pub answer_is : PutAt xs at (line_answer b line) r ys
  -- the tables are those that the line leaves
  pub tables_are : t ≡ (box_after b line).tables
  -- the line of an answer has at most 132 bytes
  pub short : r ≤ at + 132
