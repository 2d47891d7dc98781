-- Steps (document 02, E3): a command and up to four data without a gap, each a text.
use Rattle.std.specs.Prelude.{ℕ, Bool, true, false, cond, ◌&&◌, List, [], ◌∷◌, map, leb, eqb, length, get_or, drop, replicate, Option, None, option_map}
use Rattle.text.specs.Read.{Read, read_at}
use Rattle.frame.specs.Fields.{fields, placed, read_fields, reads_as, spaced, offending}
use Rattle.steps.specs.declared.step.Step.{Step}
use Rattle.steps.specs.Text.{chars_of, is_text, pack, text, read_text}

-- the texts of a step, packed: the command, then the data
abbrev pub packed : Step → List ℕ
packed s = s.command.0 ∷ s.first.0 ∷ s.second.0 ∷ s.third.0 ∷ s.fourth.0 ∷ []

-- the step of these, 0 where one is not given
abbrev pub step_from : List ℕ → Step
step_from ns =
    record { command = text (get_or ns 0 0); first = text (get_or ns 1 0); second = text (get_or ns 2 0); third = text (get_or ns 3 0); fourth = text (get_or ns 4 0) }

-- ---- a step as characters

-- the numbers before the first 0
unfoldable pub up_to : List ℕ → List ℕ
up_to [] = []
up_to (n ∷ ns) = cond (eqb n 0) [] (n ∷ up_to ns)

-- the characters of the command, and those of each datum
unfoldable pub texts_of : Step → List (List ℕ)
texts_of s = chars_of s.command.0 ∷ map chars_of (up_to (drop 1 (packed s)))

-- the step of these texts
unfoldable pub typed_of : List (List ℕ) → Step
typed_of ts = step_from (map pack ts)

-- ---- typed steps that are a step

-- a text, or 0 with 0 behind it
unfoldable pub is_datum : ℕ → ℕ → Bool
is_datum n next = cond (eqb n 0) (eqb next 0) (is_text n)

unfoldable pub are_data : List ℕ → Bool
are_data [] = true
are_data (n ∷ ns) = cond (is_datum n (get_or ns 0 0)) (are_data ns) false

-- a command, and data without a gap
unfoldable pub is_step : Step → Bool
is_step s = cond (is_text s.command.0) (are_data (drop 1 (packed s))) false

-- ---- fields as a step

-- one to five fields, each a text
unfoldable pub read_step : List (List ℕ) → Option Step
read_step fs =
    cond (leb 1 (length fs) && leb (length fs) 5)
    (option_map (λ ts. step_from (map (λ t. t.0) ts)) (read_fields read_text (length fs) fs)) None

-- a test for each field that a step can have: that it is in its form
abbrev pub step_forms : List (List ℕ → Bool)
step_forms = replicate 5 (λ f. reads_as (λ t. true) (read_text f))

-- the step that stands at an index of a text, which ETX follows
abbrev pub step_in : List ℕ → ℕ → Read Step
step_in s i = read_at (offending (length s) step_forms (placed i (drop i s))) (read_step (fields (drop i s)))

-- ---- writing

-- the texts, parted by one SP each
unfoldable pub step_text : Step → List ℕ
step_text s = spaced (texts_of s)
