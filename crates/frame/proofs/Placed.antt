-- Laws of positions: of a field in its text, of the field that offends, of an accepted frame's body, and of a stray byte.
use Prim.Native.Nat.{ℕ, zero, suc, ◌+◌, ◌-◌, ◌≤◌, ◌<◌}
use mathlib.Core.Path.{◌≡◌, refl, sym, ap, subst, ◌∙◌}
use mathlib.Core.Bool.{Bool, true, false, cond, not, ◌||◌}
use mathlib.Core.List.{List, [], ◌∷◌, map}
use mathlib.Core.Logic.{◌⊎◌, inl, inr}
use Rattle.std.specs.Prelude.{Option, Some, unwrap_or}
use native.Mathlib.Omega.{arith}
use borrow.Author.Tests.{ltb-true, ltb-false, eqb-true, eqb-false, not-false}
use lib.Arith.{lt_of_le-ne}
use lib.Dec.{ltb, eqb}
use lib.ListN.{length, get_or, take, drop, length-drop}
use lib.Seq.{slice, length-take-le, drop-drop, get_or-drop, get_or-take}
use Rattle.text.specs.Scan.{until, before, end_at, field_at}
use Rattle.text.proofs.Fields.{until_within}
use Rattle.frame.specs.Checksum.{lrc_of}
use Rattle.frame.specs.Fields.{first, more, fields, Placed, placed_more, placed, first_failing, start_of, offending}
use Rattle.frame.specs.Frame.{Reading, refused_frame, is_stray, stray, station_of, with_station, inner, read_inner, read_frame, frame_position, body_start}
use Rattle.frame.proofs.Laws.{first_is, more_none}
use Rattle.frame.proofs.Station.{empty}

-- ---- the fields of a text with their positions

abbrev texts : List Placed → List (List ℕ)
texts = map (λ f. f.text)

more_texts : (at : ℕ) (s : List ℕ) → texts (placed_more at s) ≡ more s
unfolding placed_more more
more_texts at [] = refl
more_texts at (b ∷ bs) = go (eqb b 32) (more_texts (suc at) bs)
  where
    go :
        let ps : List Placed = placed_more (suc at) bs in
        (t : Bool) →
        texts ps ≡ more bs →
        texts (cond t (record { position = suc at; text = first bs } ∷ ps) ps) ≡ cond t (first bs ∷ more bs) (more bs)
    go true e = rw e
    go false e = e

-- without their positions they are the fields
pub placed_texts : (at : ℕ) (s : List ℕ) → map (λ f. f.text) (placed at s) ≡ fields s
unfolding placed fields
placed_texts at s = rw (more_texts at s)

more_placed : (at : ℕ) (s : List ℕ) → before 32 s < length s → placed_more at s ≡ placed (at + before 32 s + 1) (drop (before 32 s + 1) s)
unfolding placed_more placed until
more_placed at [] h = absurd (omega arith)
more_placed at (b ∷ bs) h = go (eqb b 32) h (λ k. more_placed (suc at) bs k)
  where
    go :
        let n : ℕ = before 32 bs in
        let ps : List Placed = placed_more (suc at) bs in
        (t : Bool) →
        cond t zero (suc n) < suc (length bs) →
        (n < length bs → ps ≡ placed (suc at + n + 1) (drop (n + 1) bs)) →
        cond t (record { position = suc at; text = first bs } ∷ ps) ps ≡ placed (at + cond t zero (suc n) + 1) (drop (cond t zero (suc n) + 1) (b ∷ bs))
    go true k e =
        let n : at + 0 + 1 ≡ suc at = omega arith in
        rw n
    go false k e =
        let n : at + suc (before 32 bs) + 1 ≡ suc at + before 32 bs + 1 = omega arith in
        let m : suc (before 32 bs) + 1 ≡ suc (before 32 bs + 1) = omega arith in
        rw (n, m) (e (omega arith))

no_texts : (fs : List Placed) → texts fs ≡ [] → fs ≡ []
no_texts [] e = refl
no_texts (f ∷ fs) e = let z : ◌≡◌ {A = ℕ} 0 1 = cc in absurd (omega arith)

-- the field that stands at p: it is the only one left, or the rest is cut in the same way
module _ (s : List ℕ) (p : ℕ) (h : p ≤ length s) where
  pub placed_only : end_at s p ≡ length s → placed p (drop p s) ≡ record { position = p; text = field_at s p } ∷ []
  unfolding placed
  placed_only e = rw (first_is (drop p s), no_texts (placed_more p (drop p s)) (more_texts p (drop p s) ∙ more_none (drop p s) (omega (arith, length-drop p s))))

  pub placed_next : (end_at s p ≡ length s → ⊥) → placed p (drop p s) ≡ record { position = p; text = field_at s p } ∷ placed (end_at s p + 1) (drop (end_at s p + 1) s)
  unfolding placed
  placed_next n =
      let d : List ℕ = drop p s in
      let k : ℕ = before 32 d in
      let w : k ≤ length d = until_within (λ b. eqb b 32) d in
      let l = length-drop p s in
      let f : k < length d = lt_of_le-ne w (λ z. n (omega arith)) in
      let e : p + (k + 1) ≡ p + k + 1 = omega arith in
      rw (first_is d, more_placed p d f, drop-drop (k + 1) p s, e)

-- ---- the field that offends

or_else : (t : Bool) (o : Option ℕ) (p q : ℕ) → unwrap_or (cond t o (Some p)) q ≡ cond t (unwrap_or o q) p
or_else true o p q = refl
or_else false o p q = refl

module _ (etx : ℕ) where
  pub offending_none : (fs : List Placed) → offending etx [] fs ≡ start_of etx fs
  unfolding offending
  offending_none fs = refl

  module _ (t : List ℕ → Bool) (ts : List (List ℕ → Bool)) where
    pub offending_lack : offending etx (t ∷ ts) [] ≡ etx
    unfolding offending
    offending_lack = refl

    pub offending_next : (f : Placed) (fs : List Placed) → offending etx (t ∷ ts) (f ∷ fs) ≡ cond (t f.text) (offending etx ts fs) f.position
    unfolding offending
    offending_next f fs = or_else (t f.text) (first_failing ts fs) f.position (start_of etx (drop (length ts) fs))

-- every one of these fields stands where P holds
abbrev pub Every : (ℕ → Type 0) → List Placed → Type 0
Every P [] = Unit
Every P (f ∷ fs) = P f.position × Every P fs

pub every_map : {P Q : ℕ → Type 0} → ((q : ℕ) → P q → Q q) → (fs : List Placed) → Every P fs → Every Q fs
every_map g [] a = tt
every_map g (f ∷ fs) a = (g f.position a.0, every_map g fs a.1)

module _ (P : ℕ → Type 0) where
  pub every_drop : (n : ℕ) (fs : List Placed) → Every P fs → Every P (drop n fs)
  every_drop zero fs a = a
  every_drop (suc n) [] a = tt
  every_drop (suc n) (f ∷ fs) a = every_drop n fs a.1

  -- and so does the one that offends, where P holds of ETX too
  pub offending_every : (etx : ℕ) → P etx → (ts : List (List ℕ → Bool)) (fs : List Placed) → Every P fs → P (offending etx ts fs)
  unfolding offending
  offending_every etx p [] [] a = p
  offending_every etx p [] (f ∷ fs) a = a.0
  offending_every etx p (t ∷ ts) [] a = p
  offending_every etx p (t ∷ ts) (f ∷ fs) a = rw (offending_next etx t ts f fs) (go (t f.text) (offending_every etx p ts fs a.1))
    where
      go : (b : Bool) → P (offending etx ts fs) → P (cond b (offending etx ts fs) f.position)
      go true i = i
      go false i = a.0

-- ---- where the fields of a text stand that stands at p

-- after the text's start, not after its end, and just after SP
abbrev pub Behind : ℕ → List ℕ → ℕ → Type 0
Behind p s q = (p < q) × ((q ≤ p + length s) × (get_or s (q - p - 1) 0 ≡ 32))

pub more_behind : (p : ℕ) (s : List ℕ) → Every (Behind p s) (placed_more p s)
unfolding placed_more
more_behind p [] = tt
more_behind p (b ∷ bs) = go (eqb b 32) refl (every_map step (placed_more (suc p) bs) (more_behind (suc p) bs))
  where
    step : (q : ℕ) → Behind (suc p) bs q → Behind p (b ∷ bs) q
    step q h =
        let e : q - p - 1 ≡ suc (q - suc p - 1) = omega arith in
        (omega arith, (omega arith, rw e h.1.1))

    go :
        let ps : List Placed = placed_more (suc p) bs in
        (t : Bool) →
        eqb b 32 ≡ t →
        Every (Behind p (b ∷ bs)) ps →
        Every (Behind p (b ∷ bs)) (cond t (record { position = suc p; text = first bs } ∷ ps) ps)
    go true e a =
        let z : suc p - p - 1 ≡ 0 = omega arith in
        ((omega arith, (omega arith, rw z (eqb-true b 32 e))), a)
    go false e a = a

-- all of them: not before its start, and not after its end
pub placed_within : (p : ℕ) (s : List ℕ) → Every (λ q. (p ≤ q) × (q ≤ p + length s)) (placed p s)
unfolding placed
placed_within p s = (omega arith, every_map (λ q h. omega arith) (placed_more p s) (more_behind p s))

-- ---- a search that stops

module _ (test : ℕ → Bool) where
  until_at : (s : List ℕ) → until test s < length s → test (get_or s (until test s) 0) ≡ true
  unfolding until
  until_at [] h = absurd (omega arith)
  until_at (b ∷ bs) h = go (test b) refl h (λ k. until_at bs k)
    where
      go :
          let n : ℕ = until test bs in
          (t : Bool) →
          test b ≡ t →
          cond t zero (suc n) < suc (length bs) →
          (n < length bs → test (get_or bs n 0) ≡ true) →
          test (get_or (b ∷ bs) (cond t zero (suc n)) 0) ≡ true
      go true e k i = e
      go false e k i = i (omega arith)

  until_passed : (s : List ℕ) (i : ℕ) → i < until test s → test (get_or s i 0) ≡ false
  unfolding until
  until_passed [] i h = absurd (omega arith)
  until_passed (b ∷ bs) i h = go (test b) refl i h (λ j k. until_passed bs j k)
    where
      go :
          (t : Bool) →
          test b ≡ t →
          (i : ℕ) →
          i < cond t zero (suc (until test bs)) →
          ((j : ℕ) → j < until test bs → test (get_or bs j 0) ≡ false) →
          test (get_or (b ∷ bs) i 0) ≡ false
      go true e i k r = absurd (omega arith)
      go false e zero k r = e
      go false e (suc i) k r = r i (omega arith)

-- ---- what stands between STX and ETX, byte by byte

pub inner_length : (s : List ℕ) → length (inner s) ≡ length s - 3
inner_length s = length-drop 1 (take (length s - 2) s) ∙ rw (length-take-le (length s - 2) s (omega arith)) (omega arith)

inner_at : (s : List ℕ) (i : ℕ) → i < length s - 3 → get_or (inner s) i 0 ≡ get_or s (suc i) 0
inner_at s i h =
    let n : 1 + i ≡ suc i = omega arith in
    get_or-drop 1 (take (length s - 2) s) i 0 ∙ rw n (get_or-take (length s - 2) s (suc i) 0 (omega arith))

-- ---- the checks that a slice passed, by the number it is refused with

pub neither : (a b : Bool) → (a || b) ≡ false → (a ≡ false) × (b ≡ false)
neither true b e = absurd (subst (λ (t : Bool). cond t Unit ⊥) e tt)
neither false b e = (refl, e)

-- a check that refuses with another number is passed
pub past : (t : Bool) (n : ℕ) {m : ℕ} (o : Reading) → (n ≡ m → ⊥) → (cond t (refused_frame n) o).number ≡ m → (t ≡ false) × (o.number ≡ m)
past true n o h e = absurd (h e)
past false n o h e = (refl, e)

pub record Passed (s : List ℕ) : Type 0 where
  pub low : 6 ≤ length s
  pub high : length s ≤ 255
  pub stx : get_or s 0 0 ≡ 2
  pub etx : get_or s (length s - 2) 0 ≡ 3
  pub inner_is : read_frame s ≡ read_inner (inner s)

-- checks 2 to 5
pub passed : (s : List ℕ) (n : ℕ) → ((k : ℕ) → 2 ≤ k → k ≤ 5 → k ≡ n → ⊥) → (read_frame s).number ≡ n → Passed s
unfolding read_frame
passed s n other e =
    let a = past (ltb (length s) 6 || ltb 255 (length s)) 2 _ (other 2 (omega arith) (omega arith)) e in
    let b = past (not (eqb (get_or s 0 0) 2)) 3 _ (other 3 (omega arith) (omega arith)) a.1 in
    let c = past (not (eqb (get_or s (length s - 2) 0) 3)) 4 _ (other 4 (omega arith) (omega arith)) b.1 in
    let d = past (not (eqb (get_or s (length s - 1) 0) (lrc_of (slice 1 (length s - 1) s)))) 5 _ (other 5 (omega arith) (omega arith)) c.1 in
    let l = neither (ltb (length s) 6) (ltb 255 (length s)) a.0 in
    record {
      low = ltb-false (length s) 6 l.0;
      high = ltb-false 255 (length s) l.1;
      stx = eqb-true (get_or s 0 0) 2 (not-false (eqb (get_or s 0 0) 2) b.0);
      etx = eqb-true (get_or s (length s - 2) 0) 3 (not-false (eqb (get_or s (length s - 2) 0) 3) c.0);
      inner_is = rw (a.0, b.0, c.0, d.0);
    }

at_most : (t : Bool) (n : ℕ) (o : Reading) → n ≤ 7 → o.number ≤ 7 → (cond t (refused_frame n) o).number ≤ 7
at_most true n o h i = h
at_most false n o h i = i

-- 7 is the last number
pub frame_number : (s : List ℕ) → (read_frame s).number ≤ 7
unfolding read_frame read_inner
frame_number s =
    at_most (ltb (length s) 6 || ltb 255 (length s)) 2 _ (omega arith)
    (at_most (not (eqb (get_or s 0 0) 2)) 3 _ (omega arith)
    (at_most (not (eqb (get_or s (length s - 2) 0) 3)) 4 _ (omega arith)
    (at_most (not (eqb (get_or s (length s - 1) 0) (lrc_of (slice 1 (length s - 1) s)))) 5 _ (omega arith)
    (at_most (ltb (stray (inner s)) (length (inner s))) 6 _ (omega arith)
    (at_most (eqb (before 32 (inner s)) (length (inner s))) 7 _ (omega arith)
    (at_most (eqb (station_of (take (before 32 (inner s)) (inner s))) 0) 7 _ (omega arith) (omega arith)))))))

-- ---- the body of an accepted frame

-- it follows SP, which follows at least one byte
accepted : (t : List ℕ) → (read_inner t).number ≡ 0 → (1 ≤ before 32 t) × ((before 32 t < length t) × ((read_inner t).body ≡ drop (before 32 t + 1) t))
unfolding read_inner
accepted t e =
    let v : ℕ = station_of (take (before 32 t) t) in
    let a = past (ltb (stray t) (length t)) 6 _ (λ z. omega arith) e in
    let b = past (eqb (before 32 t) (length t)) 7 _ (λ z. omega arith) a.1 in
    let c = past (eqb v 0) 7 _ (λ z. omega arith) b.1 in (
      one (before 32 t) c.0,
      (lt_of_le-ne (until_within (λ n. eqb n 32) t) (eqb-false (before 32 t) (length t) b.0), rw (a.0, b.0, c.0)),
    )
  where
    one : (n : ℕ) → eqb (station_of (take n t)) 0 ≡ false → 1 ≤ n
    one zero z = absurd (eqb-false (station_of []) 0 z empty)
    one (suc n) z = omega arith

pub record BodyPlace (s : List ℕ) : Type 0 where
  pub low : 6 ≤ length s
  pub high : length s ≤ 255
  pub room : length (read_frame s).body + 5 ≤ length s
  pub body_is : drop (body_start s) (take (length s - 2) s) ≡ (read_frame s).body
  pub fields_are : drop 1 (placed 1 (inner s)) ≡ placed (body_start s) (read_frame s).body
  pub sp : get_or s (body_start s - 1) 0 ≡ 32

pub body_place : (s : List ℕ) → (read_frame s).number ≡ 0 → BodyPlace s
unfolding placed
body_place s e =
    let p = passed s 0 (λ k a b z. omega arith) e in
    let k : ℕ = before 32 (inner s) in
    let a = accepted (inner s) (ap (λ (o : Reading). o.number) (sym p.inner_is) ∙ e) in
    let q : (read_frame s).body ≡ drop (k + 1) (inner s) = ap (λ (o : Reading). o.body) p.inner_is ∙ a.1.1 in
    let n : length (read_frame s).body ≡ length (inner s) - (k + 1) = ap length q ∙ length-drop (k + 1) (inner s) in
    let l : length (inner s) ≡ length s - 3 = inner_length s in
    let f : body_start s ≡ 1 + (k + 1) = omega arith in
    let g : 1 + (k + 1) ≡ 1 + k + 1 = omega arith in
    let i : body_start s - 1 ≡ suc k = omega arith in
    record {
      low = p.low;
      high = p.high;
      room = omega arith;
      body_is = rw f (sym (q ∙ drop-drop (k + 1) 1 (take (length s - 2) s)));
      fields_are = rw (f, g, q) (more_placed 1 (inner s) a.1.0);
      sp = rw (i, ← inner_at s k (omega arith)) (eqb-true _ 32 (until_at (λ b. eqb b 32) (inner s) a.1.0));
    }

-- each of its fields stands in it, or at ETX where the last one is empty, and just after SP
abbrev pub InBody : List ℕ → ℕ → Type 0
InBody s q = (body_start s ≤ q) × ((q ≤ length s - 2) × (get_or s (q - 1) 0 ≡ 32))

-- where a frame may be wrong whose fields are: at ETX, or in its body just after SP
abbrev pub Pointed : List ℕ → ℕ → Type 0
Pointed s q = (body_start s ≤ q) × ((q ≤ length s - 2) × ((q ≡ length s - 2) ⊎ (get_or s (q - 1) 0 ≡ 32)))

behind_body : (s : List ℕ) → BodyPlace s → (q : ℕ) → Behind (body_start s) (read_frame s).body q → InBody s q
behind_body s p q h =
    let text : List ℕ = take (length s - 2) s in
    let n : ℕ = q - body_start s - 1 in
    let m : body_start s + n ≡ q - 1 = omega arith in
    let b : get_or (drop (body_start s) text) n 0 ≡ 32 = rw p.body_is h.1.1 in
    let w : get_or text (q - 1) 0 ≡ 32 = rw (← m, ← get_or-drop (body_start s) text n 0) b in
    (omega arith, (omega arith, rw (get_or-take (length s - 2) s (q - 1) 0 (omega arith)) at w))

module _ (s : List ℕ) (e : (read_frame s).number ≡ 0) where
  pub body_fields : Every (InBody s) (placed (body_start s) (read_frame s).body)
  unfolding placed
  body_fields =
      let p = body_place s e in
      let from : ℕ = body_start s in
      let body : List ℕ = (read_frame s).body in
      ((omega arith, (omega arith, p.sp)), every_map (behind_body s p) (placed_more from body) (more_behind from body))

  -- and so does the one that offends, of those after the first n, but where it is ETX
  pub body_offends :
      (n : ℕ) (ts : List (List ℕ → Bool)) →
      Pointed s (offending (length s - 2) ts (drop n (placed (body_start s) (read_frame s).body)))
  body_offends n ts =
      let p = body_place s e in
      let fs : List Placed = placed (body_start s) (read_frame s).body in
      let each : Every (Pointed s) fs = every_map (λ q h. (h.0, (h.1.0, inr h.1.1))) fs body_fields in
      offending_every (Pointed s) (length s - 2) (omega arith, (omega arith, inl refl)) ts (drop n fs) (every_drop (Pointed s) n fs each)

-- ---- the first stray byte

some_stray : (t : List ℕ) → (read_inner t).number ≡ 6 → stray t < length t
unfolding read_inner
some_stray t e = ltb-true (stray t) (length t) (go (ltb (stray t) (length t)) e)
  where
    go :
        let v : ℕ = station_of (take (before 32 t) t) in
        (b : Bool) →
        (cond b (refused_frame 6) (cond (eqb (before 32 t) (length t)) (refused_frame 7) (with_station v (drop (before 32 t + 1) t)))).number ≡ 6 →
        b ≡ true
    go true e = refl
    go false e =
        let a = past (eqb (before 32 t) (length t)) 7 _ (λ z. omega arith) e in
        let b = past (eqb (station_of (take (before 32 t) t)) 0) 7 _ (λ z. omega arith) a.1 in
        absurd (omega arith)

-- it is stray, it stands before ETX, and no byte between STX and it is stray
pub which_stray :
    (s : List ℕ) →
    (read_frame s).number ≡ 6 →
    (is_stray (get_or s (frame_position s 6) 0) ≡ true)
    × ((frame_position s 6 < length s - 2)
    × ((i : ℕ) → 1 ≤ i → i < frame_position s 6 → is_stray (get_or s i 0) ≡ false))
unfolding frame_position
which_stray s e =
    let p = passed s 6 (λ k a b z. omega arith) e in
    let h = some_stray (inner s) (ap (λ (o : Reading). o.number) (sym p.inner_is) ∙ e) in
    let l = inner_length s in
    (rw (← inner_at s (stray (inner s)) (omega arith)) (until_at is_stray (inner s) h), (omega arith, earlier h))
  where
    earlier : stray (inner s) < length (inner s) → (i : ℕ) → 1 ≤ i → i < suc (stray (inner s)) → is_stray (get_or s i 0) ≡ false
    earlier h zero a b = absurd (omega arith)
    earlier h (suc i) a b = rw (← inner_at s i (omega (arith, inner_length s))) (until_passed is_stray (inner s) i (omega arith))
