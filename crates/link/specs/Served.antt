-- Slices served in turn, each given the box as the last one left it, and what serving a line leaves (document 02, E1).
use Rattle.std.specs.Prelude.{ℕ, ◌≡◌}
use mathlib.Core.List.{List, [], ◌∷◌, ◌++◌, map, flatten}
use Rattle.text.specs.Put.{PutAt}
use Rattle.receiver.specs.Rule.{slices, slices_from, held_from}
use Rattle.tables.specs.Tables.{Tables}
use Rattle.model.specs.Call.{Call, serve}
use Rattle.model.specs.Box.{Box, after, answer, run}

-- a slice is served with a reply area of 64 bytes
abbrev pub slice_call : List ℕ → Call
slice_call s = serve s 64

-- the replies to slices, one after the other
unfoldable pub replies : Box → List (List ℕ) → List ℕ
replies b [] = []
replies b (s ∷ ss) = (answer b (slice_call s)).reply ++ replies (after b (slice_call s)) ss

-- the box that they leave
abbrev pub served_box : Box → List (List ℕ) → Box
served_box b ss = run b (map slice_call ss)

-- bytes of a line were received and served, with h held before: xs is the area for replies before and ys after, the replies
-- stand from `at` up to r, t are the tables after, and h' is held then
pub record LineServed (b : Box) (h bytes xs : List ℕ) (at r : ℕ) (ys : List ℕ) (t : Tables) (h' : List ℕ) : Type 0 where
  pub replies_are : PutAt xs at (replies b (slices_from h bytes)) r ys
  pub tables_are : t ≡ (served_box b (slices_from h bytes)).tables
  pub held_is : h' ≡ held_from h bytes

-- ---- a line in parts

-- what is written: the replies to each part, where the last part left the box and the bytes held
unfoldable pub written : Box → List ℕ → List (List ℕ) → List ℕ
written b h [] = []
written b h (p ∷ ps) = replies b (slices_from h p) ++ written (served_box b (slices_from h p)) (held_from h p) ps

-- the box at the end
unfoldable pub last_box : Box → List ℕ → List (List ℕ) → Box
last_box b h [] = b
last_box b h (p ∷ ps) = last_box (served_box b (slices_from h p)) (held_from h p) ps

-- in whatever parts a line arrives, the replies to its slices are written, and the box is the one that they leave (proved in
-- proofs/Parts.antt)
abbrev pub PartsServed : Type 0
PartsServed =
    (b : Box) (parts : List (List ℕ))
    → (written b [] parts ≡ replies b (slices (flatten parts)))
    × (last_box b [] parts ≡ served_box b (slices (flatten parts)))
