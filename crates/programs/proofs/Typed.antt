-- What stands at a step as a typed step, and a typed step as its texts.
use Prim.Native.Nat.{ℕ, ◌+◌}
use mathlib.Core.Path.{◌≡◌, refl, sym, ap, subst, ◌∙◌}
use mathlib.Core.Bool.{Bool, true, false, cond}
use mathlib.Core.List.{List, [], ◌∷◌, map}
use native.Mathlib.Omega.{arith}
use borrow.Author.Tests.{eqb-true, eqb-false}
use lib.Dec.{eqb}
use lib.ListN.{drop}
use Rattle.frame.proofs.Spaced.{Each}
use Rattle.steps.specs.declared.step.Step.{Step}
use Rattle.steps.specs.Text.{chars_of, is_text, all_chars, pack}
use Rattle.steps.specs.Step.{packed, step_from, up_to, texts_of, typed_of, are_data, is_step}
use Rattle.steps.proofs.Laws.{chars_stop, text_some, pack_none, up_none, up_stop, up_more}
use Rattle.steps.proofs.Back.{pack_some, told, pack_chars, only_pack, Data, data_are, datum_text, sound}
use Rattle.std.specs.Prelude.{None, Some}
use Rattle.programs.specs.Memory.{place, chars_at, filled, step_at, found, packed_at, ended_of}
use Rattle.programs.proofs.Laws.{chars_at_short, chars_at_all}

-- ---- texts that stand in the memory, packed

-- texts end before an empty one as numbers end before a 0
none_packed : map pack (filled []) ≡ up_to []
unfolding filled
none_packed = sym up_none

filled_packed : (t : List ℕ) (ts : List (List ℕ)) (ns : List ℕ) → all_chars t ≡ true → map pack (filled ts) ≡ up_to ns → map pack (filled (t ∷ ts)) ≡ up_to (pack t ∷ ns)
unfolding filled
filled_packed [] ts ns a e = sym (up_stop (pack []) ns pack_none)
filled_packed (b ∷ bs) ts ns a e =
    ap (λ (l : List ℕ). pack (b ∷ bs) ∷ l) e ∙ sym (up_more (pack (b ∷ bs)) ns (pack_some (b ∷ bs) (omega arith) a))

-- the five texts at p, packed
abbrev numbers_at : List ℕ → ℕ → List ℕ
numbers_at m p = packed_at m p ∷ packed_at m (p + 8) ∷ packed_at m (p + 16) ∷ packed_at m (p + 24) ∷ packed_at m (p + 32) ∷ []

step_packed : (m : List ℕ) (slot n : ℕ) → map pack (step_at m slot n) ≡ up_to (numbers_at m (place slot n))
unfolding step_at packed_at
step_packed m slot n =
    let p = place slot n in
    let all = chars_at_all 8 m in
    filled_packed _ _ _ (all p)
    (filled_packed _ _ _ (all (p + 8))
    (filled_packed _ _ _ (all (p + 16)) (filled_packed _ _ _ (all (p + 24)) (filled_packed _ _ _ (all (p + 32)) none_packed))))

-- ---- what is found

found_empty : (ts : List (List ℕ)) → map pack ts ≡ [] → found ts ≡ None
found_empty [] e = refl
found_empty (t ∷ ts) e = let z : ◌≡◌ {A = ℕ} 0 1 = cc in absurd (omega arith)

found_of : (ts : List (List ℕ)) (n : ℕ) (ns : List ℕ) → map pack ts ≡ n ∷ ns → found ts ≡ Some (step_from (n ∷ ns))
unfolding typed_of
found_of [] n ns e = let z : ◌≡◌ {A = ℕ} 0 1 = cc in absurd (omega arith)
found_of (t ∷ ts) n ns e = ap (λ (l : List ℕ). Some (step_from l)) e

-- found by the numbers that stand there
module _ (m : List ℕ) (slot n : ℕ) where
  pub load_empty : packed_at m (place slot n) ≡ 0 → found (step_at m slot n) ≡ None
  load_empty z = found_empty (step_at m slot n) (step_packed m slot n ∙ up_stop _ _ z)

  pub load_found :
      let p : ℕ = place slot n in
      (packed_at m p ≡ 0 → ⊥) →
      found (step_at m slot n) ≡ Some (ended_of (packed_at m p) (packed_at m (p + 8)) (packed_at m (p + 16)) (packed_at m (p + 24)) (packed_at m (p + 32)))
  unfolding ended_of
  load_found z = found_of (step_at m slot n) _ _ (step_packed m slot n ∙ up_more _ _ z)

-- ---- the texts of a step

filled_none : (n : ℕ) (ts : List (List ℕ)) → n ≡ 0 → filled (chars_of n ∷ ts) ≡ []
unfolding filled
filled_none n ts e = rw (e, chars_stop 8 0 refl)

filled_some : (t : List ℕ) (ts : List (List ℕ)) → (pack t ≡ 0 → ⊥) → filled (t ∷ ts) ≡ t ∷ filled ts
unfolding filled
filled_some [] ts z = absurd (z pack_none)
filled_some (b ∷ bs) ts z = refl

filled_text : (n : ℕ) (ts : List (List ℕ)) → is_text n ≡ true → filled (chars_of n ∷ ts) ≡ chars_of n ∷ filled ts
filled_text n ts e =
    let t = told n e in
    filled_some (chars_of n) ts (λ z. t.some (sym (pack_chars 8 n t.only) ∙ z))

filled_data : (ns : List ℕ) → are_data ns ≡ true → filled (map chars_of ns) ≡ map chars_of (up_to ns)
unfolding filled up_to
filled_data [] e = refl
filled_data (n ∷ ns) e = go (eqb n 0) refl (data_are n ns e) (filled_data ns (data_are n ns e).rest)
  where
    go : (t : Bool) → eqb n 0 ≡ t → Data n ns → filled (map chars_of ns) ≡ map chars_of (up_to ns) → filled (chars_of n ∷ map chars_of ns) ≡ map chars_of (cond t [] (n ∷ up_to ns))
    go true q d ih = filled_none n (map chars_of ns) (eqb-true n 0 q)
    go false q d ih = filled_text n (map chars_of ns) (datum_text n _ d.first (eqb-false n 0 q)) ∙ rw ih

-- the texts of a step are those before the first empty one
pub texts_filled : (s : Step) → is_step s ≡ true → filled (map chars_of (packed s)) ≡ texts_of s
unfolding texts_of
texts_filled s e =
    let k = sound s e in
    filled_text s.command.0 (map chars_of (drop 1 (packed s))) k.command ∙ rw (filled_data (drop 1 (packed s)) k.rest)

-- ---- what stands at a step is a step

-- 0, or a text
abbrev Datum : ℕ → Type 0
Datum n = (n ≡ 0 → ⊥) → is_text n ≡ true

number_datum : (m : List ℕ) (p : ℕ) → Datum (packed_at m p)
unfolding packed_at
number_datum m p z = text_some _ z ∙ only_pack 8 (chars_at 8 m p) (chars_at_short 8 m p) (chars_at_all 8 m p)

up_each : (ns : List ℕ) → Each Datum ns → Each (λ n. is_text n ≡ true) (up_to ns)
unfolding up_to
up_each [] a = tt
up_each (n ∷ ns) a = go (eqb n 0) refl (up_each ns a.1)
  where
    go : (t : Bool) → eqb n 0 ≡ t → Each (λ n. is_text n ≡ true) (up_to ns) → Each (λ n. is_text n ≡ true) (cond t [] (n ∷ up_to ns))
    go true q ih = tt
    go false q ih = (a.0 (eqb-false n 0 q), ih)

pub packed_texts : (m : List ℕ) (slot n : ℕ) → Each (λ n. is_text n ≡ true) (map pack (step_at m slot n))
packed_texts m slot n =
    let p = place slot n in
    let d = number_datum m in
    subst (Each (λ n. is_text n ≡ true)) (sym (step_packed m slot n))
    (up_each (numbers_at m p) (d p, (d (p + 8), (d (p + 16), (d (p + 24), (d (p + 32), tt))))))
