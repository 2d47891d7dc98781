-- What the memory promises (proved in proofs/Programs.antt).
use Rattle.std.specs.Prelude.{ℕ, ◌+◌, ◌≤◌, ◌<◌, ◌≡◌, true, List, [], ◌∷◌, ◌⊎◌, length, get_or, set, replicate}
use Rattle.steps.specs.declared.step.Step.{Step}
use Rattle.steps.specs.Step.{is_step, texts_of, typed_of}
use Rattle.programs.specs.Memory.{size, place, part, stored, step_at, program}

-- a step that was stored stands there: its command and its data, and nothing of what stood there before
abbrev pub StoredStands : Type 0
StoredStands = (m : List ℕ) (slot n : ℕ) (s : Step) → length m ≡ size → slot < 4 → n < 256 → is_step s ≡ true → step_at (stored slot n s m) slot n ≡ texts_of s

-- every other step, of this slot or another, is as it was
abbrev pub OthersStand : Type 0
OthersStand = (m : List ℕ) (slot n : ℕ) (s : Step) (slot' n' : ℕ) → n < 256 → n' < 256 → (slot ≡ slot' → n ≡ n' → ⊥) → step_at (stored slot n s m) slot' n' ≡ step_at m slot' n'

-- every byte outside of the step's 40 is as it was
abbrev pub BytesOutside : Type 0
BytesOutside = (m : List ℕ) (slot n : ℕ) (s : Step) (i : ℕ) → (i < place slot n) ⊎ (place slot n + 40 ≤ i) → get_or (stored slot n s m) i 0 ≡ get_or m i 0

-- the memory is as long as it was
abbrev pub StoredLength : Type 0
StoredLength = (m : List ℕ) (slot n : ℕ) (s : Step) → length (stored slot n s m) ≡ length m

-- as lists of steps: the slot's program has the step in its place
abbrev pub ProgramStored : Type 0
ProgramStored = (m : List ℕ) (slot n : ℕ) (s : Step) → length m ≡ size → slot < 4 → n < 256 → is_step s ≡ true → program slot (stored slot n s m) ≡ set (program slot m) n (texts_of s)

-- every other slot's program is as it was
abbrev pub ProgramsStand : Type 0
ProgramsStand = (m : List ℕ) (slot n : ℕ) (s : Step) (slot' : ℕ) → n < 256 → (slot ≡ slot' → ⊥) → program slot' (stored slot n s m) ≡ program slot' m

-- and so is every byte of it
abbrev pub PartsStand : Type 0
PartsStand = (m : List ℕ) (slot n : ℕ) (s : Step) (slot' : ℕ) → n < 256 → (slot ≡ slot' → ⊥) → part slot' (stored slot n s m) ≡ part slot' m

-- a step of a program
abbrev pub ProgramAt : Type 0
ProgramAt = (m : List ℕ) (slot n : ℕ) → n < 256 → get_or (program slot m) n [] ≡ step_at m slot n

-- in a cleared memory no step was written
abbrev pub ClearedEmpty : Type 0
ClearedEmpty = (n slot : ℕ) → program slot (replicate n 0) ≡ replicate 256 []

-- whatever the bytes are, the texts that stand at a step are none, or a step
abbrev pub StandsAsStep : Type 0
StandsAsStep = (m : List ℕ) (slot n : ℕ) (t : List ℕ) (ts : List (List ℕ)) → step_at m slot n ≡ t ∷ ts → is_step (typed_of (t ∷ ts)) ≡ true
