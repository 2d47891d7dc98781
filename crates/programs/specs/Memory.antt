-- The lent memory (document 02, E3; docs/MEMORY.md): where each text stands, and what its bytes mean.
use Rattle.std.specs.Prelude.{ℕ, zero, suc, ◌+◌, ◌*◌, ◌/◌, ◌%◌, cond, List, [], ◌∷◌, ◌++◌, get_or, take, drop, Option, None, Some}
use Rattle.std.proofs.lemmas.List.Edits.{sets}
use Rattle.steps.specs.declared.step.Step.{Step}
use Rattle.steps.specs.Text.{is_char, pack}
use Rattle.steps.specs.Step.{step_from, up_to, typed_of}

-- 10,240 bytes for each of the four slots
abbrev pub size : ℕ
size = 40960

-- where a step's 40 bytes begin
abbrev pub place : ℕ → ℕ → ℕ
place slot n = slot * 10240 + n * 40

-- the bytes of slot's program
abbrev pub part : ℕ → List ℕ → List ℕ
part slot m = take 10240 (drop (slot * 10240) m)

-- ---- what is written

-- the k lowest bytes of n, lowest first
unfoldable pub bytes_in : ℕ → ℕ → List ℕ
bytes_in zero n = []
bytes_in (suc k) n = n % 256 ∷ bytes_in k (n / 256)

abbrev pub bytes_of : ℕ → List ℕ
bytes_of n = bytes_in 8 n

-- all 40 bytes of a step
unfoldable pub step_bytes : Step → List ℕ
step_bytes s =
    bytes_of s.command.0
    ++ (bytes_of s.first.0 ++ (bytes_of s.second.0 ++ (bytes_of s.third.0 ++ bytes_of s.fourth.0)))

-- the memory with a step in its place, all else as it was
unfoldable pub stored : ℕ → ℕ → Step → List ℕ → List ℕ
stored slot n s m = sets m (place slot n) (step_bytes s)

-- ---- what stands there

-- the bytes at p up to the first that is no character, and at most k
unfoldable pub chars_at : ℕ → List ℕ → ℕ → List ℕ
chars_at zero m p = []
chars_at (suc k) m p = cond (is_char (get_or m p 0)) (get_or m p 0 ∷ chars_at k m (suc p)) []

-- the texts before the first empty one
unfoldable pub filled : List (List ℕ) → List (List ℕ)
filled [] = []
filled ([] ∷ ts) = []
filled ((b ∷ bs) ∷ ts) = (b ∷ bs) ∷ filled ts

-- the five texts at p
abbrev pub texts_at : List ℕ → ℕ → List (List ℕ)
texts_at m p = chars_at 8 m p ∷ chars_at 8 m (p + 8) ∷ chars_at 8 m (p + 16) ∷ chars_at 8 m (p + 24) ∷ chars_at 8 m (p + 32) ∷ []

-- the command and the data that stand at step n of slot's program; nothing where it was never written
unfoldable pub step_at : List ℕ → ℕ → ℕ → List (List ℕ)
step_at m slot n = filled (texts_at m (place slot n))

-- those texts as a typed step
abbrev pub found : List (List ℕ) → Option Step
found [] = None
found (t ∷ ts) = Some (typed_of (t ∷ ts))

-- k steps of a slot from n on
unfoldable pub steps_from : ℕ → List ℕ → ℕ → ℕ → List (List (List ℕ))
steps_from zero m slot n = []
steps_from (suc k) m slot n = step_at m slot n ∷ steps_from k m slot (suc n)

-- the program of a slot: its 256 steps
unfoldable pub program : ℕ → List ℕ → List (List (List ℕ))
program slot m = steps_from 256 m slot 0

-- ---- the answers of the code's parts

-- one more byte before the characters that n packs
unfoldable pub added_to : ℕ → ℕ → ℕ
added_to n b = cond (is_char b) (n * 256 + b) 0

-- the text at p, packed
unfoldable pub packed_at : List ℕ → ℕ → ℕ
packed_at m p = pack (chars_at 8 m p)

-- a command with its data, which end before the first 0
unfoldable pub ended_of : ℕ → ℕ → ℕ → ℕ → ℕ → Step
ended_of n a b c d = step_from (n ∷ up_to (a ∷ b ∷ c ∷ d ∷ []))
