-- The checks of setup: the statement of specs/Setup.antt, and what it says of the box that setup leaves.
use Prim.Native.Nat.{ℕ, zero, suc, ◌≤◌, ◌<◌}
use mathlib.Core.Path.{◌≡◌, refl, sym, ap, ◌∙◌}
use mathlib.Core.Bool.{Bool, true, false, cond, not, ◌&&◌, ◌||◌, or-true}
use mathlib.Core.List.{List, [], ◌∷◌}
use mathlib.Core.Logic.{◌⊎◌, inl, inr}
use native.Mathlib.Omega.{arith}
use borrow.Author.Tests.{ltb-true, ltb-false, eqb-true, eqb-false, not-true, lt-ltb, eq-eqb, ne_eqb}
use lib.ListN.{length, get_or, replicate}
use lib.Dec.{ltb, eqb}
use Rattle.numbers.proofs.Bounds.{and_left, and_right}
use Rattle.programs.specs.Memory.{size}
use Rattle.tables.specs.Tables.{zeros}
use Rattle.model.specs.Setup.{too_high, contains, repeats, setup_number, setup_refusal, TooHigh, Twice, SetupJudged}
use Rattle.model.specs.Box.{setup}
use Rattle.model.proofs.Laws.{false_true}

-- one of two tests holds
either : (s t : Bool) → s || t ≡ true → (s ≡ true) ⊎ (t ≡ true)
either true t e = inl refl
either false t e = inr e

-- ---- a station above 99

high_found : (want : List ℕ) (i : ℕ) → 99 < get_or want i 0 → too_high want ≡ true
unfolding too_high
high_found [] i h = absurd (omega arith)
high_found (s ∷ rest) zero h = rw (lt-ltb 99 s h)
high_found (s ∷ rest) (suc i) h = rw (high_found rest i h, or-true)

high_slot : (want : List ℕ) → too_high want ≡ true → TooHigh want
unfolding too_high
high_slot [] e = false_true e
high_slot (s ∷ rest) e = go (high_slot rest) (either (ltb 99 s) (too_high rest) e)
  where
    go : (too_high rest ≡ true → TooHigh rest) → (ltb 99 s ≡ true) ⊎ (too_high rest ≡ true) → TooHigh (s ∷ rest)
    go ih (inl h) = record { slot = 0; high = ltb-true 99 s h }
    go ih (inr h) = let t = ih h in record { slot = suc t.slot; high = t.high }

-- ---- a nonzero station twice

contains_found : (s : ℕ) (rest : List ℕ) (i : ℕ) → (s ≡ 0 → ⊥) → get_or rest i 0 ≡ s → contains s rest ≡ true
unfolding contains
contains_found s [] i n e = absurd (n (sym e))
contains_found s (t ∷ rest) zero n e = rw (eq-eqb t s e)
contains_found s (t ∷ rest) (suc i) n e = rw (contains_found s rest i n e, or-true)

contains_slot : (s : ℕ) (rest : List ℕ) → contains s rest ≡ true → (i : ℕ) × (get_or rest i 0 ≡ s)
unfolding contains
contains_slot s [] e = false_true e
contains_slot s (t ∷ rest) e = go (contains_slot s rest) (either (eqb t s) (contains s rest) e)
  where
    go : (contains s rest ≡ true → (i : ℕ) × (get_or rest i 0 ≡ s)) → (eqb t s ≡ true) ⊎ (contains s rest ≡ true) → (i : ℕ) × (get_or (t ∷ rest) i 0 ≡ s)
    go ih (inl h) = (0, eqb-true t s h)
    go ih (inr h) = let (i, q) = ih h in (suc i, q)

repeats_found : (want : List ℕ) (i j : ℕ) → i < j → (get_or want i 0 ≡ 0 → ⊥) → get_or want j 0 ≡ get_or want i 0 → repeats want ≡ true
unfolding repeats
repeats_found [] i j l n e = absurd (n refl)
repeats_found (s ∷ rest) i zero l n e = absurd (omega arith)
repeats_found (s ∷ rest) zero (suc j) l n e = rw (ne_eqb s 0 n, contains_found s rest j n e)
repeats_found (s ∷ rest) (suc i) (suc j) l n e = rw (repeats_found rest i j (omega arith) n e, or-true)

repeats_slots : (want : List ℕ) → repeats want ≡ true → Twice want
unfolding repeats
repeats_slots [] e = false_true e
repeats_slots (s ∷ rest) e = go (repeats_slots rest) (either (not (eqb s 0) && contains s rest) (repeats rest) e)
  where
    go : (repeats rest ≡ true → Twice rest) → (not (eqb s 0) && contains s rest ≡ true) ⊎ (repeats rest ≡ true) → Twice (s ∷ rest)
    go ih (inl h) =
        let (i, q) = contains_slot s rest (and_right (not (eqb s 0)) _ h) in
        record { slot = 0; later = suc i; order = omega arith; nonzero = eqb-false s 0 (not-true _ (and_left _ _ h)); equal = q }
    go ih (inr h) =
        let t = ih h in
        record { slot = suc t.slot; later = suc t.later; order = omega (arith, t.order); nonzero = t.nonzero; equal = t.equal }

-- ---- the statement

pub setup_judged : SetupJudged
unfolding setup_number
setup_judged =
    record {
      high = λ want h. rw (high_found want h.slot h.high);
      twice = λ want t. rw (repeats_found want t.slot t.later t.order t.nonzero t.equal, or-true);
      only = λ want. only (too_high want) (repeats want) (high_slot want) (repeats_slots want);
      neither = λ want p q. neither (too_high want) (repeats want) (λ e. p (high_slot want e)) (λ e. q (repeats_slots want e));
    }
  where
    only : {A B : Type 0} (s t : Bool) → (s ≡ true → A) → (t ≡ true → B) → ◌≡◌ {A = ℕ} (cond (s || t) 13 0) 13 → A ⊎ B
    only true t p q e = inl (p refl)
    only false true p q e = inr (q refl)
    only false false p q e = absurd (omega arith)

    neither : (s t : Bool) → (s ≡ true → ⊥) → (t ≡ true → ⊥) → ◌≡◌ {A = ℕ} (cond (s || t) 13 0) 0
    neither true t p q = absurd (p refl)
    neither false true p q = absurd (q refl)
    neither false false p q = refl

-- ---- what setup leaves

-- accepted: the memory has its size
accepted_size : (want m : List ℕ) → setup_refusal want m ≡ 0 → length m ≡ size
unfolding setup_refusal
accepted_size want m = go (eqb (length m) size) refl (λ e. omega arith)
  where
    go : (t : Bool) → eqb (length m) size ≡ t → {n : ℕ} → (n ≡ 0 → ⊥) → cond t (setup_number want) n ≡ 0 → length m ≡ size
    go true h z e = eqb-true _ size h
    go false h z e = absurd (z e)

-- check 13 passes
pub accepted_number : (want m : List ℕ) → setup_refusal want m ≡ 0 → setup_number want ≡ 0
unfolding setup_refusal
accepted_number want m = go (eqb (length m) size) (λ e. omega arith)
  where
    go : (t : Bool) {n : ℕ} → (n ≡ 0 → ⊥) → cond t (setup_number want) n ≡ 0 → setup_number want ≡ 0
    go true h e = e
    go false h e = absurd (h e)

-- no station is above 99
pub accepted_small : (want m : List ℕ) (k : ℕ) → setup_refusal want m ≡ 0 → get_or want k 0 ≤ 99
accepted_small want m k a = let e = accepted_number want m a in go e (ltb 99 (get_or want k 0)) refl
  where
    go : setup_number want ≡ 0 → (t : Bool) → ltb 99 (get_or want k 0) ≡ t → get_or want k 0 ≤ 99
    go e true h = absurd (omega (arith, setup_judged.high want (record { slot = k; high = ltb-true 99 _ h })))
    go e false h = ltb-false 99 _ h

-- a list of four is its four elements
four : (st : List ℕ) → length st ≡ 4 → st ≡ get_or st 0 0 ∷ get_or st 1 0 ∷ get_or st 2 0 ∷ get_or st 3 0 ∷ []
four [] e = absurd (omega arith)
four (a ∷ []) e = absurd (omega arith)
four (a ∷ b ∷ []) e = absurd (omega arith)
four (a ∷ b ∷ c ∷ []) e = absurd (omega arith)
four (a ∷ b ∷ c ∷ d ∷ []) e = refl
four (a ∷ b ∷ c ∷ d ∷ x ∷ xs) e = absurd (omega arith)

-- accepted: the stations are the numbers given, and the memory is cleared
pub accepted_stations : (want m : List ℕ) → length want ≡ 4 → setup_refusal want m ≡ 0 → get_or want 0 0 ∷ get_or want 1 0 ∷ get_or want 2 0 ∷ get_or want 3 0 ∷ [] ≡ (setup want m).stations
unfolding setup
accepted_stations want m l e = sym (four want l) ∙ rw e

pub accepted_tables : (want m p : List ℕ) → setup_refusal want m ≡ 0 → p ≡ replicate (length m) 0 → zeros p ≡ (setup want m).tables
unfolding setup
accepted_tables want m p e c = ap zeros (c ∙ ap (λ n. replicate n 0) (accepted_size want m e)) ∙ rw e

-- refused: no slot is fitted, and the memory is as it was
pub refused_stations : (want m : List ℕ) → (setup_refusal want m ≡ 0 → ⊥) → replicate 4 0 ≡ (setup want m).stations
unfolding setup
refused_stations want m e = rw (ne_eqb _ _ e)

pub refused_tables : (want m : List ℕ) → (setup_refusal want m ≡ 0 → ⊥) → zeros m ≡ (setup want m).tables
unfolding setup
refused_tables want m e = rw (ne_eqb _ _ e)
