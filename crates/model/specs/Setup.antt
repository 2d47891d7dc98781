-- The checks of setup: 1 of the memory that is lent for the START programs (document 02, E3), then 13 of the station numbers
-- given for the slots (document 01, "Refusal numbers"). `setup_number` computes check 13; `SetupJudged` says in both directions
-- when it refuses.
use Rattle.std.specs.Prelude.{ℕ, ◌<◌, ◌≡◌, Bool, false, cond, not, ◌&&◌, ◌||◌, List, [], ◌∷◌, ◌⊎◌, length, get_or, ltb, eqb}
use Rattle.programs.specs.Memory.{size}

-- some station is above 99
unfoldable pub too_high : List ℕ → Bool
too_high [] = false
too_high (s ∷ rest) = ltb 99 s || too_high rest

-- station s is given
unfoldable pub contains : ℕ → List ℕ → Bool
contains s [] = false
contains s (t ∷ rest) = eqb t s || contains s rest

-- some nonzero station is given twice
unfoldable pub repeats : List ℕ → Bool
repeats [] = false
repeats (s ∷ rest) = (not (eqb s 0) && contains s rest) || repeats rest

-- 13 SETUP: a station above 99, or one nonzero station twice
unfoldable pub setup_number : List ℕ → ℕ
setup_number want = cond (too_high want || repeats want) 13 0

-- the number that setup gives, of the station numbers and the lent memory: 1 ROOM where it has another size, then 13
unfoldable pub setup_refusal : List ℕ → List ℕ → ℕ
setup_refusal want m = cond (eqb (length m) size) (setup_number want) 1

-- ---- the same of slots

-- a slot is given a station above 99
pub record TooHigh (want : List ℕ) : Type 0 where
  pub slot : ℕ
  pub high : 99 < get_or want slot 0

-- two slots are given one nonzero station
pub record Twice (want : List ℕ) : Type 0 where
  pub slot : ℕ
  pub later : ℕ
  pub order : slot < later
  pub nonzero : get_or want slot 0 ≡ 0 → ⊥
  pub equal : get_or want later 0 ≡ get_or want slot 0

-- when setup gives 13 and when 0, of any numbers (proved in proofs/Setups.antt)
pub record SetupJudged : Type 0 where
  -- either refuses
  pub high : (want : List ℕ) → TooHigh want → setup_number want ≡ 13
  pub twice : (want : List ℕ) → Twice want → setup_number want ≡ 13
  -- nothing else does
  pub only : (want : List ℕ) → setup_number want ≡ 13 → TooHigh want ⊎ Twice want
  -- without either setup is accepted
  pub neither : (want : List ℕ) → (TooHigh want → ⊥) → (Twice want → ⊥) → setup_number want ≡ 0
