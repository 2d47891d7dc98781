-- A line cut in two, and what one call takes of it.
use Prim.Native.Nat.{ℕ, ◌≤◌, ◌<◌}
use mathlib.Core.Path.{◌≡◌, refl, sym, ap, ◌∙◌}
use mathlib.Core.Bool.{Bool, true, false, cond}
use mathlib.Core.List.{List, [], ◌∷◌, ◌++◌, append_assoc}
use native.Mathlib.Omega.{arith}
use borrow.Author.Tests.{ne_eqb}
use lib.Dec.{eqb}
use lib.ListN.{length, take, length-append}
use Rattle.receiver.specs.Rule.{Effect, dropped, begun, added, finished, effect, held_after, ends, given, held_from, slices_from}
use Rattle.receiver.specs.Receive.{Taken, one_more, taken, stored}

pub held_cut : (h xs ys : List ℕ) → held_from h (xs ++ ys) ≡ held_from (held_from h xs) ys
unfolding held_from
held_cut h [] ys = refl
held_cut h (b ∷ xs) ys = held_cut (held_after (effect h b) h b) xs ys

pub slices_cut : (h xs ys : List ℕ) → slices_from h (xs ++ ys) ≡ slices_from h xs ++ slices_from (held_from h xs) ys
unfolding slices_from held_from
slices_cut h [] ys = refl
slices_cut h (b ∷ xs) ys =
    ap (λ (l : List (List ℕ)). given (effect h b) h b ++ l) (slices_cut (held_after (effect h b) h b) xs ys)
    ∙ sym (append_assoc (given (effect h b) h b) (slices_from (held_after (effect h b) h b) xs) _)

-- ---- one call

-- a slice that was handed out; none is empty
abbrev pub one : List ℕ → List (List ℕ)
one s = cond (eqb (length s) 0) [] (s ∷ [])

-- a call takes at most what has arrived, and something where that is not nothing; it hands out the slice of the bytes that it
-- took, and holds what they leave
pub record Takes (t : Taken) (h arrived : List ℕ) : Type 0 where
  pub within : t.taken ≤ length arrived
  pub some : 0 < length arrived → 0 < t.taken
  pub slice_is : one t.slice ≡ slices_from h (take t.taken arrived)
  pub held_is : t.held ≡ held_from h (take t.taken arrived)

none_taken : (m h : List ℕ) → Takes (record { taken = 0; slice = []; held = h; memory = m }) h []
unfolding slices_from held_from
none_taken m h = record { within = omega arith; some = λ z. absurd (omega arith); slice_is = refl; held_is = refl }

module _ (m h : List ℕ) (b : ℕ) (bs : List ℕ) where
  last_taken : effect h b ≡ finished → Takes (record { taken = 1; slice = h ++ (b ∷ []); held = []; memory = m }) h (b ∷ bs)
  unfolding slices_from held_from
  last_taken p =
      record {
        within = omega arith;
        some = λ z. omega arith;
        slice_is = rw (p, ne_eqb (length (h ++ (b ∷ []))) 0 (λ z. omega (arith, z, length-append h (b ∷ []))));
        held_is = rw p;
      }

  one_taken : {t : Taken} → ends (effect h b) ≡ false → Takes t (held_after (effect h b) h b) bs → Takes (one_more t) h (b ∷ bs)
  unfolding slices_from held_from
  one_taken {t} p k =
      record {
        within = omega (arith, k.within);
        some = λ z. omega arith;
        slice_is = rw p k.slice_is;
        held_is = k.held_is;
      }

-- only the LRC ends a slice
ends_is : (e : Effect) → ends e ≡ true → e ≡ finished
ends_is dropped p = let z : ◌≡◌ {A = ℕ} 0 1 = cc in absurd (omega arith)
ends_is begun p = let z : ◌≡◌ {A = ℕ} 0 1 = cc in absurd (omega arith)
ends_is added p = let z : ◌≡◌ {A = ℕ} 0 1 = cc in absurd (omega arith)
ends_is finished p = refl

pub takes : (m h arrived : List ℕ) → Takes (taken m h arrived) h arrived
unfolding taken
takes m h [] = none_taken m h
takes m h (b ∷ bs) = go (ends (effect h b)) refl (takes (stored (effect h b) m (length h) b) (held_after (effect h b) h b) bs)
  where
    go :
        let e : Effect = effect h b in
        let m' : List ℕ = stored e m (length h) b in
        (t : Bool) →
        ends e ≡ t →
        Takes (taken m' (held_after e h b) bs) (held_after e h b) bs →
        Takes (cond t (record { taken = 1; slice = h ++ (b ∷ []); held = []; memory = m' }) (one_more (taken m' (held_after e h b) bs))) h (b ∷ bs)
    go true p k = last_taken _ h b bs (ends_is (effect h b) p)
    go false p k = one_taken m h b bs p k
