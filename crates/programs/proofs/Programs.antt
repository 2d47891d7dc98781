-- What the memory promises: a step stored stands there, and nothing else moves.
use Prim.Native.Nat.{ℕ, zero, suc, ◌+◌, ◌*◌, ◌≤◌, ◌<◌}
use mathlib.Core.Path.{◌≡◌, refl, sym, ap, subst, ◌∙◌}
use mathlib.Core.Bool.{Bool, true, false}
use mathlib.Core.Logic.{◌⊎◌, inl, inr, ⊎_elim}
use mathlib.Core.List.{List, [], ◌∷◌, map}
use native.Mathlib.Omega.{arith}
use native.Mathlib.Nat.{add-zero}
use borrow.Author.Tests.{eqb-true, eqb-false, ltb-true, ltb-false}
use lib.Dec.{ltb, eqb}
use lib.ListN.{length, get_or, drop, set, replicate, length-set, length-take, length-drop}
use lib.Seq.{sets, length-sets, get_or-set_same, get_or-set_other, get_or-take, get_or-drop, ext_get_or}
use Rattle.frame.proofs.Spaced.{Each}
use Rattle.steps.specs.declared.step.Step.{Step}
use Rattle.steps.specs.Text.{chars_in, chars_of, is_text, pack, text}
use Rattle.steps.specs.Step.{packed, step_from, texts_of, typed_of, is_step}
use Rattle.steps.proofs.Back.{typed, step_texts}
use Rattle.programs.specs.Memory.{place, part, bytes_in, step_bytes, stored, chars_at, filled, texts_at, step_at, steps_from, program}
use Rattle.programs.specs.Laws.{StoredStands, OthersStand, BytesOutside, StoredLength, ProgramStored, ProgramsStand, PartsStand, ProgramAt, ClearedEmpty, StandsAsStep}
use Rattle.programs.proofs.Laws.{zeros_at}
use Rattle.programs.proofs.Typed.{texts_filled, packed_texts}

-- ---- the steps of a program

steps_length : (k : ℕ) (m : List ℕ) (slot n : ℕ) → length (steps_from k m slot n) ≡ k
unfolding steps_from
steps_length zero m slot n = refl
steps_length (suc k) m slot n = ap suc (steps_length k m slot (suc n))

steps_at : (k : ℕ) (m : List ℕ) (slot n i : ℕ) → i < k → get_or (steps_from k m slot n) i [] ≡ step_at m slot (n + i)
unfolding steps_from
steps_at zero m slot n i h = absurd (omega arith)
steps_at (suc k) m slot n zero h = rw (add-zero n)
steps_at (suc k) m slot n (suc i) h =
    let e : n + suc i ≡ suc n + i = omega arith in
    rw e (steps_at k m slot (suc n) i (omega arith))

pub program_length : (slot : ℕ) (m : List ℕ) → length (program slot m) ≡ 256
unfolding program
program_length slot m = steps_length 256 m slot 0

pub program_at : ProgramAt
unfolding program
program_at m slot n h = let z : 0 + n ≡ n = omega arith in steps_at 256 m slot 0 n h ∙ rw z

-- ---- a cleared memory

no_text : (n p : ℕ) → chars_at 8 (replicate n 0) p ≡ []
unfolding chars_at
no_text n p = rw (zeros_at n p)

no_step_lem : (n slot i : ℕ) → step_at (replicate n 0) slot i ≡ []
unfolding step_at filled
no_step_lem n slot i = rw (no_text n (place slot i))

no_steps : (k n slot i : ℕ) → steps_from k (replicate n 0) slot i ≡ replicate k []
unfolding steps_from
no_steps zero n slot i = refl
no_steps (suc k) n slot i = rw (no_step_lem n slot i) (ap (λ (l : List (List (List ℕ))). [] ∷ l) (no_steps k n slot (suc i)))

pub cleared_empty : ClearedEmpty
unfolding program
cleared_empty n slot = no_steps 256 n slot 0

-- ---- a byte after a run of stores

outside : (vs m : List ℕ) (at i : ℕ) → (i < at) ⊎ (at + length vs ≤ i) → get_or (sets m at vs) i 0 ≡ get_or m i 0
outside [] m at i h = refl
outside (v ∷ vs) m at i h =
    outside vs (set m at v) (suc at) i (⊎_elim (λ a. inl (omega arith)) (λ b. inr (omega arith)) h)
    ∙ get_or-set_other m at i v 0 (λ e. ⊎_elim (λ a. omega arith) (λ b. omega arith) h)

within : (vs m : List ℕ) (at i : ℕ) → i < length vs → at + length vs ≤ length m → get_or (sets m at vs) (at + i) 0 ≡ get_or vs i 0
within [] m at i h f = absurd (omega arith)
within (v ∷ vs) m at zero h f =
    rw (add-zero at) (outside vs (set m at v) (suc at) at (inl (omega arith)) ∙ get_or-set_same m at v 0 (omega arith))
within (v ∷ vs) m at (suc i) h f =
    let e : at + suc i ≡ suc at + i = omega arith in
    rw e (within vs (set m at v) (suc at) i (omega arith) (simp length-set (omega arith)))

-- ---- texts of bytes that are alike

-- the n bytes at p of m are those at q of l
abbrev Alike : ℕ → List ℕ → ℕ → List ℕ → ℕ → Type 0
Alike n m p l q = (i : ℕ) → i < n → get_or m (p + i) 0 ≡ get_or l (q + i) 0

chars_alike : (k : ℕ) (m : List ℕ) (p : ℕ) (l : List ℕ) (q : ℕ) → Alike k m p l q → chars_at k m p ≡ chars_at k l q
unfolding chars_at
chars_alike zero m p l q h = refl
chars_alike (suc k) m p l q h =
    let e : get_or m p 0 ≡ get_or l q 0 = rw (add-zero p, add-zero q) at (h 0 (omega arith)) in
    let r = chars_alike k m (suc p) l (suc q) (λ i d. moved i (h (suc i) (omega arith))) in
    rw (e, r)
  where
    moved : (i : ℕ) → get_or m (p + suc i) 0 ≡ get_or l (q + suc i) 0 → get_or m (suc p + i) 0 ≡ get_or l (suc q + i) 0
    moved i e = let a : suc p + i ≡ p + suc i = omega arith in let b : suc q + i ≡ q + suc i = omega arith in rw (a, b) e

-- the text of eight bytes from j on
text_alike : (n : ℕ) (m : List ℕ) (p : ℕ) (l : List ℕ) (q : ℕ) (j : ℕ) → Alike n m p l q → j + 8 ≤ n → chars_at 8 m (p + j) ≡ chars_at 8 l (q + j)
text_alike n m p l q j h f = chars_alike 8 m (p + j) l (q + j) (λ i d. moved i (h (j + i) (omega arith)))
  where
    moved : (i : ℕ) → get_or m (p + (j + i)) 0 ≡ get_or l (q + (j + i)) 0 → get_or m (p + j + i) 0 ≡ get_or l (q + j + i) 0
    moved i e = let a : p + j + i ≡ p + (j + i) = omega arith in let b : q + j + i ≡ q + (j + i) = omega arith in rw (a, b) e

texts_alike : (m : List ℕ) (p : ℕ) (l : List ℕ) (q : ℕ) → Alike 40 m p l q → texts_at m p ≡ texts_at l q
texts_alike m p l q h =
    let a = chars_alike 8 m p l q (λ i d. h i (omega arith)) in
    let t = text_alike 40 m p l q in
    rw (a, t 8 h (omega arith), t 16 h (omega arith), t 24 h (omega arith), t 32 h (omega arith))

-- ---- a step stored

step_length : (s : Step) → length (step_bytes s) ≡ 40
unfolding step_bytes bytes_in
step_length s = refl

-- its bytes, wherever they stand
stands : (m : List ℕ) (p : ℕ) (s : Step) → p + 40 ≤ length m → Alike 40 (sets m p (step_bytes s)) p (step_bytes s) 0
stands m p s f i h =
    let n = step_length s in
    let z : 0 + i ≡ i = omega arith in
    rw z (within (step_bytes s) m p i (omega arith) (omega arith))

texts_in_bytes : (s : Step) → texts_at (step_bytes s) 0 ≡ map chars_of (packed s)
unfolding step_bytes bytes_in chars_at chars_in
texts_in_bytes s = refl

pub stored_stands : StoredStands
unfolding step_at stored
stored_stands m slot n s l a b e =
    ap filled (texts_alike (stored slot n s m) (place slot n) (step_bytes s) 0 (stands m (place slot n) s (omega arith)) ∙ texts_in_bytes s)
    ∙ texts_filled s e

pub bytes_outside : BytesOutside
unfolding stored
bytes_outside m slot n s i h = outside (step_bytes s) m (place slot n) i (rw (step_length s) h)

pub stored_length : StoredLength
unfolding stored
stored_length m slot n s = length-sets m (place slot n) (step_bytes s)

-- ---- every other step

-- one of two different numbers is below the other
order : (x y : ℕ) → (x ≡ y → ⊥) → (x < y) ⊎ (y < x)
order x y n = go (ltb x y) refl
  where
    go : (t : Bool) → ltb x y ≡ t → (x < y) ⊎ (y < x)
    go true e = inl (ltb-true x y e)
    go false e = let h = ltb-false x y e in inr (omega arith)

-- two steps that are not the same lie apart
apart : (slot n slot' n' : ℕ) → n < 256 → n' < 256 → (slot ≡ slot' → n ≡ n' → ⊥) → (place slot n + 40 ≤ place slot' n') ⊎ (place slot' n' + 40 ≤ place slot n)
apart slot n slot' n' a b d =
    ⊎_elim (λ x. inl (omega arith)) (λ y. inr (omega arith))
    (order (slot * 256 + n) (slot' * 256 + n') (λ e. d (omega arith) (omega arith)))

pub others_stand : OthersStand
unfolding step_at
others_stand m slot n s slot' n' a b d =
    let far = apart slot n slot' n' a b d in
    ap filled
    (texts_alike (stored slot n s m) (place slot' n') m (place slot' n')
    (λ i h. bytes_outside m slot n s (place slot' n' + i) (⊎_elim (λ x. inr (omega arith)) (λ y. inl (omega arith)) far)))

-- ---- as lists of steps

pub programs_stand : ProgramsStand
programs_stand m slot n s slot' a d =
    ext_get_or [] (program slot' (stored slot n s m)) (program slot' m) (program_length slot' _ ∙ sym (program_length slot' m))
    (λ i h. go i (omega (arith, h, program_length slot' (stored slot n s m))))
  where
    go : (i : ℕ) → i < 256 → get_or (program slot' (stored slot n s m)) i [] ≡ get_or (program slot' m) i []
    go i h = program_at _ slot' i h ∙ others_stand m slot n s slot' i a h (λ e c. d e) ∙ sym (program_at m slot' i h)

part_at : (slot : ℕ) (m : List ℕ) (i : ℕ) → i < 10240 → get_or (part slot m) i 0 ≡ get_or m (slot * 10240 + i) 0
part_at slot m i h = get_or-take 10240 (drop (slot * 10240) m) i 0 h ∙ get_or-drop (slot * 10240) m i 0

part_length : (slot : ℕ) (m l : List ℕ) → length m ≡ length l → length (part slot m) ≡ length (part slot l)
part_length slot m l e = simp (length-take, length-drop, e)

pub parts_stand : PartsStand
parts_stand m slot n s slot' a d =
    ext_get_or 0 (part slot' (stored slot n s m)) (part slot' m) (part_length slot' (stored slot n s m) m (stored_length m slot n s))
    (λ i h. go i (omega (arith, h, length-take 10240 (drop (slot' * 10240) (stored slot n s m)))))
  where
    go : (i : ℕ) → i < 10240 → get_or (part slot' (stored slot n s m)) i 0 ≡ get_or (part slot' m) i 0
    go i h =
        part_at slot' (stored slot n s m) i h
        ∙ bytes_outside m slot n s (slot' * 10240 + i) (⊎_elim (λ x. inr (omega arith)) (λ y. inl (omega arith)) (order slot slot' d))
        ∙ sym (part_at slot' m i h)

pub program_stored : ProgramStored
program_stored m slot n s l a b e =
    ext_get_or [] (program slot (stored slot n s m)) (set (program slot m) n (texts_of s))
    (program_length slot _ ∙ sym (length-set (program slot m) n (texts_of s) ∙ program_length slot m))
    (λ i h. go i (omega (arith, h, program_length slot (stored slot n s m))))
  where
    same : (i : ℕ) → i < 256 → i ≡ n → get_or (program slot (stored slot n s m)) i [] ≡ get_or (set (program slot m) n (texts_of s)) i []
    same i h p =
        program_at _ slot i h
        ∙ rw p (stored_stands m slot n s l a b e ∙ sym (get_or-set_same (program slot m) n (texts_of s) [] (omega (arith, program_length slot m))))

    other : (i : ℕ) → i < 256 → (i ≡ n → ⊥) → get_or (program slot (stored slot n s m)) i [] ≡ get_or (set (program slot m) n (texts_of s)) i []
    other i h d =
        program_at _ slot i h
        ∙ others_stand m slot n s slot i b h (λ x y. d (sym y))
        ∙ sym (get_or-set_other (program slot m) n i (texts_of s) [] d ∙ program_at m slot i h)

    go : (i : ℕ) → i < 256 → get_or (program slot (stored slot n s m)) i [] ≡ get_or (set (program slot m) n (texts_of s)) i []
    go i h = pick (eqb i n) refl
      where
        pick : (t : Bool) → eqb i n ≡ t → get_or (program slot (stored slot n s m)) i [] ≡ get_or (set (program slot m) n (texts_of s)) i []
        pick true q = same i h (eqb-true i n q)
        pick false q = other i h (eqb-false i n q)

-- ---- what stands at a step is a step

each_typed : (ns : List ℕ) → Each (λ n. is_text n ≡ true) ns → Each (λ t. is_text t.0 ≡ true) (map text ns)
each_typed [] a = tt
each_typed (n ∷ ns) a = (a.0, each_typed ns a.1)

pub stands_as_step : StandsAsStep
unfolding typed_of
stands_as_step m slot n t ts e =
    let ns : List ℕ = map pack (t ∷ ts) in
    let a = subst (λ l. Each (λ n. is_text n ≡ true) (map pack l)) e (packed_texts m slot n) in
    ap (λ (l : List ℕ). is_step (step_from l)) (sym (typed ns)) ∙ step_texts (map text ns) (omega arith) (each_typed ns a)
