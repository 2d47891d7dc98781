-- The state of the program `cell`, and what its input does to it (document 01, "Checked examples").
use Rattle.std.specs.Prelude.{ℕ, ◌≤◌, ◌≡◌, cond, List, [], ◌∷◌, ◌++◌, length, take, eqb}
use Rattle.tables.specs.Tables.{Tables}
use Rattle.model.specs.Box.{Box, box}
use Rattle.answers.specs.Answers.{line_answer, box_after}
use Rattle.stream.specs.declared.buffers.Buffers.{Buffers}
use Rattle.stream.specs.declared.input.Progress.{Progress}

-- the box, what is held of the line that has not ended, the answers that wait to be written
pub record Cell : Type 0 where
  pub box : Box
  pub line : List ℕ
  pub output : List ℕ

-- the line has ended: it is answered behind the output, and the next line is empty
unfoldable pub ended : Cell → Cell
ended c =
    record {
      box = box_after c.box c.line;
      line = [];
      output = c.output ++ line_answer c.box c.line;
    }

-- one byte more of the line, of which 513 are kept
unfoldable pub extended : Cell → ℕ → Cell
extended c b = record { box = c.box; line = take 513 (c.line ++ (b ∷ [])); output = c.output }

-- one byte of input: LF ends the line, any other byte is part of it
unfoldable pub taken : Cell → ℕ → Cell
taken c b = cond (eqb b 10) (ended c) (extended c b)

-- the bytes of input one after the other
unfoldable pub taken_all : Cell → List ℕ → Cell
taken_all c [] = c
taken_all c (b ∷ bs) = taken_all (taken c b) bs

-- the input's end: a line that is not empty counts
unfoldable pub finished : Cell → Cell
finished c = cond (eqb (length c.line) 0) c (ended c)

-- the state with w before its output
abbrev pub preceded : List ℕ → Cell → Cell
preceded w c = record { box = c.box; line = c.line; output = w ++ c.output }

-- ---- the state in memory

-- the state that stations, tables, and a lent line and output are
abbrev pub cell_at : List ℕ → Tables → List ℕ → List ℕ → Progress → Cell
cell_at st t held out p =
    record { box = box st t; line = take p.held held; output = take p.waiting out }

-- the lent bytes are as many as the program has, and the progress is within them
pub record Within (held out : List ℕ) (p : Progress) : Type 0 where
  pub held_size : length held ≡ 513
  pub out_size : length out ≡ 65536
  pub held_fits : p.held ≤ 513
  pub waiting_fits : p.waiting ≤ 65536

-- the state that stations, tables, line and output are
abbrev pub cell_of : List ℕ → Tables → Buffers → Cell
cell_of st t b =
    record { box = box st t; line = take b.held b.line; output = take b.waiting b.output }

-- so many bytes of the input were taken: c is the state before and d after
pub record Took (c : Cell) (input : List ℕ) (n : ℕ) (d : Cell) : Type 0 where
  -- no byte beyond the input
  pub within : n ≤ length input
  -- the state is that of the bytes taken
  pub state_is : d ≡ taken_all c (take n input)
