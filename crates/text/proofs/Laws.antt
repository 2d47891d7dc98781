-- Laws about lists that every proof above rests on: a list from an index on, a search, and bytes written at an index.
use Prim.Native.Nat.{ℕ, zero, suc, ◌+◌, ◌-◌, ◌≤◌, ◌<◌}
use mathlib.Core.Path.{◌≡◌, refl, ◌∙◌}
use mathlib.Core.Bool.{Bool, true, false, cond}
use mathlib.Core.List.{List, [], ◌∷◌, ◌++◌, append_assoc}
use native.Mathlib.Omega.{arith}
use native.Mathlib.Nat.{add-zero}
use native.Mathlib.Numerals.{add-one}
use borrow.Author.Tests.{eq-eqb}
use lib.Bits.{bit_xor}
use lib.ListN.{length, get_or, take, drop, set, drop_of_length-le, length-append, length-drop}
use lib.Seq.{drop-cons, take_all, set_out, sets}
use Rattle.std.specs.Prelude.{position, unwrap_or}
use Rattle.std.proofs.lemmas.Grind.{common_steps}
use Rattle.text.specs.Scan.{until, before}
use Rattle.text.specs.Put.{Put, PutAt, xor_onto}
use Rattle.text.specs.declared.put.Cursor.{Cursor}

-- ---- a list from an index on, where the index is inside, and where it is not

pub here : (s : List ℕ) (i : ℕ) → i < length s → drop i s ≡ get_or s i 0 ∷ drop (i + 1) s
here s i h = rw (add-one, drop-cons s i 0 h)

pub over : (s : List ℕ) (i : ℕ) → length s ≤ i → drop i s ≡ []
over s i h = drop_of_length-le s h

-- a part up to the end is all that follows
pub rest : (n : ℕ) (s : List ℕ) → take (length s - n) (drop n s) ≡ drop n s
rest n s = take_all (length s - n) (drop n s) (simp length-drop (omega arith))

-- ---- a search

-- the index that the library's search finds
pub position_until : (test : ℕ → Bool) (s : List ℕ) → unwrap_or (position test s) (length s) ≡ until test s
unfolding until
position_until test [] = refl
position_until test (b ∷ s) = grind (arith, common_steps, position_until test s)

-- a search passes over us
abbrev pub Skips : (ℕ → Bool) → List ℕ → Type 0
Skips test us = (bs : List ℕ) → until test (us ++ bs) ≡ length us + until test bs

pub skips_append : (test : ℕ → Bool) (us vs : List ℕ) → Skips test us → Skips test vs → Skips test (us ++ vs)
skips_append test us vs p q bs = rw (append_assoc us vs bs, p (vs ++ bs), q bs) (omega (arith, length-append us vs))

pub skips_cons : (test : ℕ → Bool) (b : ℕ) (s : List ℕ) → test b ≡ false → Skips test s → Skips test (b ∷ s)
unfolding until
skips_cons test b s e p bs = rw e (omega (arith, p bs))

-- one that finds nothing in it
pub skips_all : (test : ℕ → Bool) (s : List ℕ) → until test s ≡ length s → Skips test s
unfolding until
skips_all test [] e bs = omega arith
skips_all test (b ∷ s) e bs = go (test b) e (λ k. skips_all test s k bs)
  where
    go : (t : Bool) → cond t zero (suc (until test s)) ≡ suc (length s) → (until test s ≡ length s → until test (s ++ bs) ≡ length s + until test bs) → cond t zero (suc (until test (s ++ bs))) ≡ suc (length s) + until test bs
    go true e ih = absurd (omega arith)
    go false e ih = omega (arith, ih (omega arith))

-- it stops at the byte behind
pub skips_stop : (test : ℕ → Bool) (us : List ℕ) (b : ℕ) (bs : List ℕ) → Skips test us → test b ≡ true → until test (us ++ (b ∷ bs)) ≡ length us
unfolding until
skips_stop test us b bs p e = p (b ∷ bs) ∙ rw e (omega arith)

-- a list that does not start with a
pub not_first : (a : ℕ) (s : List ℕ) → 1 ≤ before a s → get_or s 0 0 ≡ a → ⊥
unfolding until
not_first a [] h e = omega arith
not_first a (b ∷ bs) h e = omega (arith, rw (eq-eqb b a e) at h)

-- ---- bytes written at an index

pub sets_append : (xs : List ℕ) (at : ℕ) (us vs : List ℕ) → sets xs at (us ++ vs) ≡ sets (sets xs at us) (at + length us) vs
sets_append xs at [] vs = rw (add-zero at)
sets_append xs at (u ∷ us) vs =
    let e : suc at + length us ≡ at + suc (length us) = omega arith in
    sets_append (set xs at u) (suc at) us vs ∙ rw e

-- past the end nothing is written
pub sets_out : {A : Type 0} (xs : List A) (i : ℕ) (vs : List A) → length xs ≤ i → sets xs i vs ≡ xs
sets_out xs i [] h = refl
sets_out xs i (v ∷ vs) h = rw (set_out xs i v h) (sets_out xs (suc i) vs (omega arith))

-- nothing was written
pub put_at_none : (xs : List ℕ) (at : ℕ) → PutAt xs at [] at xs
put_at_none xs at = record { next = omega arith; area = refl }

-- one piece after another
pub put_at_then : {xs : List ℕ} {at : ℕ} {us : List ℕ} {p : ℕ} {ys vs : List ℕ} {q : ℕ} {zs : List ℕ} → PutAt xs at us p ys → PutAt ys p vs q zs → PutAt xs at (us ++ vs) q zs
put_at_then {xs} {at} {us} {p} {ys} {vs} {q} {zs} a b = record {
  next = omega (arith, a.next, b.next, length-append us vs);
  area = b.area ∙ simp (a.area, a.next, sets_append);
}

-- ---- bytes written at a cursor, which sums them

-- the sum of one piece after another
pub xor_append : (sum : ℕ) (us vs : List ℕ) → xor_onto sum (us ++ vs) ≡ xor_onto (xor_onto sum us) vs
unfolding xor_onto
xor_append sum [] vs = refl
xor_append sum (u ∷ us) vs = xor_append (bit_xor sum u) us vs

-- the bytes and the index, without the sum
pub put_at : {xs : List ℕ} {to : Cursor} {vs : List ℕ} {r : Cursor} {ys : List ℕ} → Put xs to vs r ys → PutAt xs to.at vs r.at ys
put_at p = record { next = p.next; area = p.area }

-- nothing was written
pub put_none : (xs : List ℕ) (to : Cursor) → Put xs to [] to xs
unfolding xor_onto
put_none xs to = record { next = omega arith; sum = refl; area = refl }

-- one piece after another
pub put_then : {xs : List ℕ} {to : Cursor} {us : List ℕ} {p : Cursor} {ys vs : List ℕ} {q : Cursor} {zs : List ℕ} → Put xs to us p ys → Put ys p vs q zs → Put xs to (us ++ vs) q zs
put_then {us = us} {vs = vs} a b =
    let w = put_at_then (put_at a) (put_at b) in
    record { next = w.next; sum = b.sum ∙ simp (a.sum, xor_append); area = w.area }
