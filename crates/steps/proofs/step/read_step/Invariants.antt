-- The invariant: the fields that are left, read into the array as it is now from index i on, give what all of them give.
use Prim.Native.Nat.{ℕ, suc, ◌+◌, ◌-◌, ◌≤◌, ◌<◌}
use mathlib.Core.Path.{◌≡◌, refl, sym, ap, ◌∙◌}
use mathlib.Core.Bool.{Bool, true, false, cond}
use mathlib.Core.List.{List, [], ◌∷◌, map}
use Rattle.std.specs.Prelude.{Option, None, Some, option_map, Ok, Err}
use native.Mathlib.Omega.{arith}
use native.Mathlib.Numerals.{add-one}
use borrow.Author.Tests.{le-leb, lt-leb}
use lib.Dec.{leb, leb-suc-suc}
use lib.ListN.{length, set, replicate}
use lib.Seq.{sets}
use Rattle.text.specs.Scan.{field_at, end_at}
use Rattle.text.proofs.Laws.{sets_out}
use Rattle.frame.specs.Fields.{fields, Placed, with_first, read_fields, reads_as, offending}
use Rattle.frame.proofs.Placed.{offending_none, offending_next}
use Rattle.frame.proofs.Spaced.{left, none_left, next_left}
use Rattle.steps.specs.declared.texts.Text.{Text}
use Rattle.steps.specs.declared.step.Step.{Step}
use Rattle.text.specs.Read.{Read, malformed, read_at}
use Rattle.steps.specs.Text.{read_text}
use Rattle.steps.specs.Step.{step_from, read_step, step_in}
use Rattle.steps.proofs.step.read_step.Given as goal

-- ---- at most m fields, each a text

pub few : ℕ → List (List ℕ) → Option (List Text)
few m fs = cond (leb (length fs) m) (read_fields read_text (length fs) fs) None

pub few_none : (m : ℕ) → few m [] ≡ Some []
unfolding few read_fields
few_none m = rw (le-leb 0 m (omega arith))

pub few_surplus : (f : List ℕ) (fs : List (List ℕ)) → few 0 (f ∷ fs) ≡ None
unfolding few
few_surplus f fs = rw (lt-leb (suc (length fs)) 0 (omega arith))

pub few_next : (m : ℕ) (f : List ℕ) (fs : List (List ℕ)) → few (suc m) (f ∷ fs) ≡ with_first (read_text f) (few m fs)
unfolding few read_fields
few_next m f fs = rw (leb-suc-suc (length fs) m) (go (leb (length fs) m) (read_text f))
  where
    go :
        let o : Option (List Text) = read_fields read_text (length fs) fs in
        (b : Bool) (r : Option Text) →
        cond b (with_first r o) None ≡ with_first r (cond b o None)
    go true r = refl
    go false (Some t) = refl
    go false None = refl

-- ---- texts read into an array from index i on

pub filled : List ℕ → ℕ → Option (List Text) → Option Step
filled xs i (Some ts) = Some (step_from (sets xs i (map (λ t. t.0) ts)))
filled xs i None = None

abbrev pub zeros : List ℕ
zeros = 0 ∷ 0 ∷ 0 ∷ 0 ∷ 0 ∷ []

pub step_filled : (ns : List ℕ) → step_from ns ≡ step_from (sets zeros 0 ns)
step_filled [] = refl
step_filled (a ∷ []) = refl
step_filled (a ∷ b ∷ []) = refl
step_filled (a ∷ b ∷ c ∷ []) = refl
step_filled (a ∷ b ∷ c ∷ d ∷ []) = refl
step_filled (a ∷ b ∷ c ∷ d ∷ e ∷ ns) = rw (sets_out (a ∷ b ∷ c ∷ d ∷ e ∷ []) 5 ns (omega arith))

pub all_filled : (o : Option (List Text)) → option_map (λ ts. step_from (map (λ t. t.0) ts)) o ≡ filled zeros 0 o
unfolding filled
all_filled (Some ts) = ap Some (step_filled (map (λ t. t.0) ts))
all_filled None = refl

pub one_filled : (xs : List ℕ) (i : ℕ) (t : Text) (o : Option (List Text)) → filled xs i (with_first (Some t) o) ≡ filled (set xs i t.0) (i + 1) o
unfolding filled
one_filled xs i t (Some ts) = rw (add-one i)
one_filled xs i t None = refl

-- there is a field
pub step_read : (s : List ℕ) → read_step (fields s) ≡ filled zeros 0 (few 5 (fields s))
unfolding read_step few fields
step_read s = rw (le-leb 1 (length (fields s)) (omega arith)) (go (leb (length (fields s)) 5))
  where
    go :
        let o : Option (List Text) = read_fields read_text (length (fields s)) (fields s) in
        (b : Bool) →
        cond b (option_map (λ ts. step_from (map (λ t. t.0) ts)) o) None ≡ filled zeros 0 (cond b o None)
    go true = all_filled (read_fields read_text (length (fields s)) (fields s))
    go false = all_filled None

-- ---- the answer for at most m texts that are still to be read, into xs from index i on

module _ (etx : ℕ) where
  unfoldable pub form : List ℕ → Bool
  form f = reads_as (λ t. true) (read_text f)

  unfoldable pub answer : List ℕ → ℕ → ℕ → List Placed → Read Step
  answer xs i m fs = read_at (offending etx (replicate m form) fs) (filled xs i (few m (map (λ f. f.text) fs)))

  module _ (xs : List ℕ) (i : ℕ) where
    complete : (m : ℕ) → answer xs i m [] ≡ Ok (step_from xs)
    unfolding answer filled
    complete m = rw (few_none m)

    surplus : (f : Placed) (fs : List Placed) → answer xs i 0 (f ∷ fs) ≡ Err (malformed f.position)
    unfolding answer filled
    surplus f fs = rw (few_surplus f.text (map (λ f. f.text) fs), offending_none etx (f ∷ fs))

    module _ (m : ℕ) (f : Placed) (fs : List Placed) where
      misread : read_text f.text ≡ None → answer xs i (suc m) (f ∷ fs) ≡ Err (malformed f.position)
      unfolding answer filled form
      misread e = rw (offending_next etx form (replicate m form) f fs, few_next m f.text (map (λ f. f.text) fs), e)

      given : {t : Text} → read_text f.text ≡ Some t → answer xs i (suc m) (f ∷ fs) ≡ answer (set xs i t.0) (i + 1) m fs
      unfolding answer form
      given {t} e =
          rw (offending_next etx form (replicate m form) f fs, few_next m f.text (map (λ f. f.text) fs), e, one_filled xs i t)

-- ---- the loop

-- i texts are read into xs, and the next field starts at p
pub record Begun (s : List ℕ) (from : ℕ) (xs : List ℕ) (i p : ℕ) : Type 0 where
  pub rest : step_in s from ≡ answer (length s) xs i (5 - i) (left s p)

module _ {s : List ℕ} {from : ℕ} {xs : List ℕ} {i p : ℕ} (h : Begun s from xs i p) where
  pub all_read : length s < p → Ok (step_from xs) ≡ step_in s from
  all_read l = sym (h.rest ∙ rw (none_left s p l) (complete (length s) xs i (5 - i)))

  module _ (l : p ≤ length s) where
    -- the next field
    next : Placed
    next = record { position = p; text = field_at s p }

    pub too_many : 5 ≤ i → Err (malformed p) ≡ step_in s from
    unfolding next
    too_many e =
        let z : 5 - i ≡ 0 = omega arith in
        sym (h.rest ∙ rw (z, next_left s p l) (surplus (length s) xs i next (left s (end_at s p + 1))))

    module _ (n : i < 5) where
      again : step_in s from ≡ answer (length s) xs i (suc (5 - (i + 1))) (next ∷ left s (end_at s p + 1))
      unfolding next
      again =
          let e : 5 - i ≡ suc (5 - (i + 1)) = omega arith in
          h.rest ∙ rw (e, next_left s p l)

      pub unread : read_text (field_at s p) ≡ None → Err (malformed p) ≡ step_in s from
      unfolding next
      unread e = sym (again ∙ misread (length s) xs i (5 - (i + 1)) next (left s (end_at s p + 1)) e)

      pub read : {t : Text} → read_text (field_at s p) ≡ Some t → Begun s from (set xs i t.0) (i + 1) (end_at s p + 1)
      unfolding next
      read e = record { rest = again ∙ given (length s) xs i (5 - (i + 1)) next (left s (end_at s p + 1)) e }

abbrev pub invariant-loop-i : goal.invariant-loop-i
invariant-loop-i l = Begun l.text l.fn.from.index l.texts l.i l.next
