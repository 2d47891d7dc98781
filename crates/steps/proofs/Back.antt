-- Texts there and back, since packing characters and taking the characters of a number undo each other; and steps there and
-- back, by their texts.
use Prim.Native.Nat.{ℕ, zero, suc, ◌-◌, ◌/◌, ◌%◌, ◌≤◌}
use mathlib.Core.Path.{◌≡◌, refl, sym, ap, ◌∙◌}
use mathlib.Core.Bool.{Bool, true, false, cond, ◌&&◌}
use mathlib.Core.List.{List, [], ◌∷◌, map, map-map}
use Rattle.std.specs.Prelude.{Option, None, Some, option_map}
use Rattle.std.proofs.lemmas.Option.{none-some, same_Some}
use native.Mathlib.Omega.{arith}
use borrow.Author.Tests.{leb-true, le-leb, le-ltb, eqb-true, eqb-false, eq-eqb, ne_eqb}
use lib.Dec.{leb, eqb}
use lib.ListN.{length, get_or, drop, length-map, length-append}
use Rattle.text.proofs.Laws.{Skips, skips_cons}
use Rattle.frame.specs.Fields.{fields, read_fields, following}
use Rattle.frame.specs.Frame.{is_stray}
use Rattle.frame.proofs.Spaced.{Each, each_map, spaced_skips, spaced_length, fields_spaced, fields_back, fields_each}
use Rattle.steps.specs.declared.texts.Text.{Text}
use Rattle.steps.specs.declared.step.Step.{Step}
use Rattle.steps.specs.Text.{is_char, chars_in, chars_of, only_chars, is_text, all_chars, pack, read_text, text}
use Rattle.steps.specs.Step.{packed, step_from, up_to, texts_of, typed_of, is_datum, are_data, is_step, read_step, step_text}
use Rattle.steps.specs.Back.{FieldWritesBack, ReadIsText, TextReadsBack, ReadIsStep, StepReadsBack, TextsBack}
use Rattle.steps.proofs.Laws.{char_low, char_high, chars_stop, chars_more, only_zero, only_more, text_none, text_some, pack_none, pack_cons, all_none, all_cons, all_first, all_rest, read_good}

-- ---- a field, packed

-- what a field that reads as t is
record Reads (s : List ℕ) (t : Text) : Type 0 where
  filled : 1 ≤ length s
  short : length s ≤ 8
  all : all_chars s ≡ true
  is : text (pack s) ≡ t

reads : (s : List ℕ) (t : Text) → read_text s ≡ Some t → Reads s t
unfolding read_text
reads s t e = go (leb 1 (length s)) (leb (length s) 8) (all_chars s) refl refl refl e
  where
    go : (a b d : Bool) → leb 1 (length s) ≡ a → leb (length s) 8 ≡ b → all_chars s ≡ d → cond (a && b) (cond d (Some (text (pack s))) None) None ≡ Some t → Reads s t
    go true true true p q r e = record { filled = leb-true _ _ p; short = leb-true _ _ q; all = r; is = cc }
    go true true false p q r e = let z : ◌≡◌ {A = ℕ} 0 1 = cc in absurd (omega arith)
    go true false d p q r e = let z : ◌≡◌ {A = ℕ} 0 1 = cc in absurd (omega arith)
    go false b d p q r e = let z : ◌≡◌ {A = ℕ} 0 1 = cc in absurd (omega arith)

-- the lowest byte of a packed list is its first character, and the rest is the others packed
record Cut (b : ℕ) (bs : List ℕ) : Type 0 where
  byte : pack (b ∷ bs) % 256 ≡ b
  rest : pack (b ∷ bs) / 256 ≡ pack bs
  filled : pack (b ∷ bs) ≡ 0 → ⊥

cut : (b : ℕ) (bs : List ℕ) → is_char b ≡ true → Cut b bs
cut b bs e =
    let l = char_low b e in
    let h = char_high b e in
    let p = pack_cons b bs in
    record { byte = rw p (omega arith); rest = rw p (omega arith); filled = λ z. omega arith }

pub chars_pack : (k : ℕ) (s : List ℕ) → length s ≤ k → all_chars s ≡ true → chars_in k (pack s) ≡ s
chars_pack k [] h e = rw pack_none (chars_stop k 0 refl)
chars_pack zero (b ∷ bs) h e = absurd (omega arith)
chars_pack (suc k) (b ∷ bs) h e =
    let d = all_first b bs e in
    let p = cut b bs d in
    let q : suc k - 1 ≡ k = omega arith in
    chars_more (suc k) (pack (b ∷ bs)) (omega arith) (rw p.byte d)
    ∙ rw (p.byte, p.rest, q, chars_pack k bs (omega arith) (all_rest b bs e))

pub only_pack : (k : ℕ) (s : List ℕ) → length s ≤ k → all_chars s ≡ true → only_chars k (pack s) ≡ true
only_pack k [] h e = only_zero k (pack []) pack_none
only_pack zero (b ∷ bs) h e = absurd (omega arith)
only_pack (suc k) (b ∷ bs) h e =
    let d = all_first b bs e in
    let p = cut b bs d in
    let q : suc k - 1 ≡ k = omega arith in
    only_more (suc k) (pack (b ∷ bs)) (omega arith) p.filled (rw p.byte d)
    ∙ rw (p.rest, q) (only_pack k bs (omega arith) (all_rest b bs e))

pub pack_some : (s : List ℕ) → 1 ≤ length s → all_chars s ≡ true → pack s ≡ 0 → ⊥
pack_some [] h e = absurd (omega arith)
pack_some (b ∷ bs) h e = (cut b bs (all_first b bs e)).filled

pub field_writes_back : FieldWritesBack
field_writes_back s t e =
    let r = reads s t e in
    rw (sym r.is) (chars_pack 8 s r.short r.all)

pub read_is_text : ReadIsText
read_is_text s t e =
    let r = reads s t e in
    rw (sym r.is) (text_some (pack s) (pack_some s r.filled r.all) ∙ only_pack 8 s r.short r.all)

-- ---- a number, as characters

pub chars_short : (k n : ℕ) → length (chars_in k n) ≤ k
unfolding chars_in
chars_short zero n = omega arith
chars_short (suc k) n = go (is_char (n % 256)) (chars_short k (n / 256))
  where
    go : (t : Bool) → length (chars_in k (n / 256)) ≤ k → length (cond t (n % 256 ∷ chars_in k (n / 256)) []) ≤ suc k
    go true h = omega arith
    go false h = omega arith

pub chars_all : (k n : ℕ) → all_chars (chars_in k n) ≡ true
unfolding chars_in
chars_all zero n = all_none
chars_all (suc k) n = go (is_char (n % 256)) refl (chars_all k (n / 256))
  where
    go : (t : Bool) → is_char (n % 256) ≡ t → all_chars (chars_in k (n / 256)) ≡ true → all_chars (cond t (n % 256 ∷ chars_in k (n / 256)) []) ≡ true
    go true e h = all_cons _ _ e ∙ h
    go false e h = all_none

pub pack_chars : (k n : ℕ) → only_chars k n ≡ true → pack (chars_in k n) ≡ n
unfolding chars_in only_chars
pack_chars zero n e = pack_none ∙ sym (eqb-true n 0 e)
pack_chars (suc k) n e = go (is_char (n % 256)) (eqb n 0) refl refl e (pack_chars k (n / 256))
  where
    go : (t z : Bool) → is_char (n % 256) ≡ t → eqb n 0 ≡ z → cond z true (cond t (only_chars k (n / 256)) false) ≡ true → (only_chars k (n / 256) ≡ true → pack (chars_in k (n / 256)) ≡ n / 256) → pack (cond t (n % 256 ∷ chars_in k (n / 256)) []) ≡ n
    go true false p q e ih = pack_cons _ _ ∙ omega (arith, ih e)
    go true true p q e ih = absurd (omega (arith, char_low (n % 256) p, eqb-true n 0 q))
    go false true p q e ih = pack_none ∙ sym (eqb-true n 0 q)
    go false false p q e ih = let z : ◌≡◌ {A = ℕ} 0 1 = cc in absurd (omega arith)

-- a text is not 0, and all its bytes count
pub record Told (n : ℕ) : Type 0 where
  pub some : n ≡ 0 → ⊥
  pub only : only_chars 8 n ≡ true

pub told : (n : ℕ) → is_text n ≡ true → Told n
told n e = go (eqb n 0) refl
  where
    go : (z : Bool) → eqb n 0 ≡ z → Told n
    go true q = let f = text_none n (eqb-true n 0 q) in let z : ◌≡◌ {A = ℕ} 0 1 = cc in absurd (omega arith)
    go false q = let z = eqb-false n 0 q in record { some = z; only = sym (text_some n z) ∙ e }

pub chars_some : (s : List ℕ) (n : ℕ) → pack s ≡ n → (n ≡ 0 → ⊥) → 1 ≤ length s
chars_some [] n e z = absurd (z (sym e ∙ pack_none))
chars_some (b ∷ bs) n e z = omega arith

pub text_reads_back : TextReadsBack
text_reads_back n e =
    let t = told n e in
    let p = pack_chars 8 n t.only in
    read_good (chars_in 8 n) (chars_some (chars_in 8 n) n p t.some) (chars_short 8 n) (chars_all 8 n) ∙ ap (λ (m : ℕ). Some (text m)) p

-- ---- characters that a search passes over

module _ (test : ℕ → Bool) (other : (b : ℕ) → is_char b ≡ true → test b ≡ false) where
  pub all_skips : (s : List ℕ) → all_chars s ≡ true → Skips test s
  all_skips [] e = λ bs. omega arith
  all_skips (b ∷ bs) e = skips_cons test b bs (other b (all_first b bs e)) (all_skips bs (all_rest b bs e))

  pub chars_skips : (n : ℕ) → Skips test (chars_of n)
  chars_skips n = all_skips (chars_of n) (chars_all 8 n)

  -- and SP is passed over too
  pub step_skips : test 32 ≡ false → (s : Step) → Skips test (step_text s)
  unfolding step_text texts_of
  step_skips space s =
      spaced_skips test space (texts_of s) (chars_skips s.command.0, each_map (Skips test) chars_of chars_skips (up_to (drop 1 (packed s))))

-- a character is no SP
chars_solid : (n : ℕ) → Skips (λ b. eqb b 32) (chars_of n)
chars_solid = chars_skips (λ b. eqb b 32) (λ b e. ne_eqb b 32 (λ z. omega (arith, char_low b e)))

-- no byte of a step is stray
pub step_clean : (s : Step) → Skips is_stray (step_text s)
step_clean = step_skips is_stray (λ b e. rw (le-ltb b 32 (omega (arith, char_low b e)), le-ltb 126 b (char_high b e))) refl

-- ---- data without a gap

pub record Data (n : ℕ) (ns : List ℕ) : Type 0 where
  pub first : is_datum n (get_or ns 0 0) ≡ true
  pub rest : are_data ns ≡ true

pub data_are : (n : ℕ) (ns : List ℕ) → are_data (n ∷ ns) ≡ true → Data n ns
unfolding are_data
data_are n ns e = go (is_datum n (get_or ns 0 0)) refl e
  where
    go : (t : Bool) → is_datum n (get_or ns 0 0) ≡ t → cond t (are_data ns) false ≡ true → Data n ns
    go true q e = record { first = q; rest = e }
    go false q e = let z : ◌≡◌ {A = ℕ} 0 1 = cc in absurd (omega arith)

-- behind a 0 stands a 0
datum_none : (n next : ℕ) → is_datum n next ≡ true → n ≡ 0 → next ≡ 0
unfolding is_datum
datum_none n next e z = eqb-true next 0 (rw (eq-eqb n 0 z) at e)

pub datum_text : (n next : ℕ) → is_datum n next ≡ true → (n ≡ 0 → ⊥) → is_text n ≡ true
unfolding is_datum
datum_text n next e z = rw (ne_eqb n 0 z) at e

data_none : (ns : List ℕ) → are_data ns ≡ true → get_or ns 0 0 ≡ 0 → (i : ℕ) → get_or ns i 0 ≡ 0
data_none [] e z i = refl
data_none (n ∷ ns) e z zero = z
data_none (n ∷ ns) e z (suc i) =
    let d = data_are n ns e in
    data_none ns d.rest (datum_none n _ d.first z) i

-- those before the first 0 are all there are
up_data : (ns : List ℕ) → are_data ns ≡ true → (i : ℕ) → get_or (up_to ns) i 0 ≡ get_or ns i 0
unfolding up_to
up_data [] e i = refl
up_data (n ∷ ns) e i = go (eqb n 0) refl i (up_data ns (data_are n ns e).rest)
  where
    go : (t : Bool) → eqb n 0 ≡ t → (i : ℕ) → ((j : ℕ) → get_or (up_to ns) j 0 ≡ get_or ns j 0) → get_or (cond t [] (n ∷ up_to ns)) i 0 ≡ get_or (n ∷ ns) i 0
    go true q i ih = sym (data_none (n ∷ ns) e (eqb-true n 0 q) i)
    go false q zero ih = refl
    go false q (suc i) ih = ih i

-- each of them is a text
up_texts : (ns : List ℕ) → are_data ns ≡ true → Each (λ n. is_text n ≡ true) (up_to ns)
unfolding up_to
up_texts [] e = tt
up_texts (n ∷ ns) e = go (eqb n 0) refl (up_texts ns (data_are n ns e).rest)
  where
    go : (t : Bool) → eqb n 0 ≡ t → Each (λ n. is_text n ≡ true) (up_to ns) → Each (λ n. is_text n ≡ true) (cond t [] (n ∷ up_to ns))
    go true q ih = tt
    go false q ih = (datum_text n _ (data_are n ns e).first (eqb-false n 0 q), ih)

up_length : (ns : List ℕ) → length (up_to ns) ≤ length ns
unfolding up_to
up_length [] = omega arith
up_length (n ∷ ns) = go (eqb n 0) (up_length ns)
  where
    go : (t : Bool) → length (up_to ns) ≤ length ns → length (cond t [] (n ∷ up_to ns)) ≤ suc (length ns)
    go true h = omega arith
    go false h = omega arith

-- a text before data without a gap
more_data : (n : ℕ) (ns : List ℕ) → is_text n ≡ true → are_data ns ≡ true → are_data (n ∷ ns) ≡ true
unfolding are_data is_datum
more_data n ns e d = rw (ne_eqb n 0 (told n e).some, e, d)

-- ---- the texts of a step

-- packed, without those that are not there
numbers : Step → List ℕ
numbers s = s.command.0 ∷ up_to (drop 1 (packed s))

numbers_few : (s : Step) → length (numbers s) ≤ 5
unfolding numbers
numbers_few s = omega (arith, up_length (drop 1 (packed s)))

texts_are : (s : Step) → texts_of s ≡ map chars_of (numbers s)
unfolding texts_of numbers
texts_are s = refl

-- 8 bytes at most for each, and an SP between each two
pub step_length : (s : Step) → length (step_text s) ≤ 44
unfolding step_text texts_of
step_length s =
    let ns : List ℕ = up_to (drop 1 (packed s)) in
    omega (
      arith,
      spaced_length 8 (chars_of s.command.0) (map chars_of ns)
          (chars_short 8 s.command.0, each_map (λ t. length t ≤ 8) chars_of (chars_short 8) ns),
      length-map ns chars_of,
      up_length (drop 1 (packed s)),
    )

step_fields : (s : Step) → fields (step_text s) ≡ texts_of s
unfolding step_text texts_of
step_fields s =
    fields_spaced (chars_of s.command.0) (map chars_of (up_to (drop 1 (packed s))))
    (chars_solid s.command.0, each_map (Skips (λ b. eqb b 32)) chars_of chars_solid (up_to (drop 1 (packed s))))

pub record Sound (s : Step) : Type 0 where
  pub command : is_text s.command.0 ≡ true
  pub rest : are_data (drop 1 (packed s)) ≡ true

pub sound : (s : Step) → is_step s ≡ true → Sound s
unfolding is_step
sound s e = go (is_text s.command.0) refl e
  where
    go : (t : Bool) → is_text s.command.0 ≡ t → cond t (are_data (drop 1 (packed s))) false ≡ true → Sound s
    go true q e = record { command = q; rest = e }
    go false q e = let z : ◌≡◌ {A = ℕ} 0 1 = cc in absurd (omega arith)

pub is_stepped : (s : Step) → is_step s ≡ true → is_text s.command.0 ≡ true
is_stepped s e = (sound s e).command

pub step_some : (s : Step) → is_step s ≡ true → 1 ≤ length (step_text s)
unfolding step_text texts_of
step_some s e =
    let n : ℕ = s.command.0 in
    let t = told n (is_stepped s e) in
    omega (
      arith,
      chars_some (chars_of n) n (pack_chars 8 n t.only) t.some,
      length-append (chars_of n) (following (map chars_of (up_to (drop 1 (packed s))))),
    )

module _ (s : Step) (e : is_step s ≡ true) where
  numbers_texts : Each (λ n. is_text n ≡ true) (numbers s)
  unfolding numbers
  numbers_texts = (is_stepped s e, up_texts (drop 1 (packed s)) (sound s e).rest)

  step_from_lem : step_from (numbers s) ≡ s
  unfolding numbers
  step_from_lem = let u = up_data (drop 1 (packed s)) (sound s e).rest in rw (u 0, u 1, u 2, u 3)

-- ---- texts, packed and read

pack_texts : (ns : List ℕ) → Each (λ n. is_text n ≡ true) ns → map pack (map chars_of ns) ≡ ns
pack_texts [] a = refl
pack_texts (n ∷ ns) a = rw (pack_chars 8 n (told n a.0).only, pack_texts ns a.1)

pub texts_back : TextsBack
unfolding typed_of
texts_back s e = rw (texts_are s, pack_texts (numbers s) (numbers_texts s e)) (step_from_lem s e)

pub typed : (ns : List ℕ) → map (λ t. t.0) (map text ns) ≡ ns
typed [] = refl
typed (n ∷ ns) = ap (λ ms. n ∷ ms) (typed ns)

each_back : (ns : List ℕ) → Each (λ n. is_text n ≡ true) ns → Each (λ t. read_text (chars_of t.0) ≡ Some t) (map text ns)
each_back [] a = tt
each_back (n ∷ ns) a = (text_reads_back n a.0, each_back ns a.1)

texts_read : (ns : List ℕ) → Each (λ n. is_text n ≡ true) ns → read_fields read_text (length ns) (map chars_of ns) ≡ Some (map text ns)
texts_read ns a =
    rw (length-map ns text, map-map (λ t. chars_of t.0) text ns) at (fields_back read_text (λ t. chars_of t.0) (map text ns) (each_back ns a))

numbers_read : (ns : List ℕ) → 1 ≤ length ns → length ns ≤ 5 → Each (λ n. is_text n ≡ true) ns → read_step (map chars_of ns) ≡ Some (step_from ns)
unfolding read_step
numbers_read ns l h a = rw (length-map ns chars_of, le-leb 1 (length ns) l, le-leb (length ns) 5 h, texts_read ns a, typed ns)

pub step_reads_back : StepReadsBack
unfolding numbers
step_reads_back s e =
    rw (step_fields s, texts_are s)
    (numbers_read (numbers s) (omega arith) (numbers_few s) (numbers_texts s e) ∙ ap Some (step_from_lem s e))

-- ---- what is read

data_texts : (ts : List Text) → Each (λ t. is_text t.0 ≡ true) ts → let ns : List ℕ = map (λ t. t.0) ts in are_data (get_or ns 0 0 ∷ get_or ns 1 0 ∷ get_or ns 2 0 ∷ get_or ns 3 0 ∷ []) ≡ true
unfolding are_data is_datum
data_texts [] a = refl
data_texts (t ∷ []) a = more_data t.0 (0 ∷ 0 ∷ 0 ∷ []) a.0 refl
data_texts (t ∷ u ∷ []) a = more_data t.0 (u.0 ∷ 0 ∷ 0 ∷ []) a.0 (more_data u.0 (0 ∷ 0 ∷ []) a.1.0 refl)
data_texts (t ∷ u ∷ v ∷ []) a =
    more_data t.0 (u.0 ∷ v.0 ∷ 0 ∷ []) a.0
    (more_data u.0 (v.0 ∷ 0 ∷ []) a.1.0 (more_data v.0 (0 ∷ []) a.1.1.0 refl))
data_texts (t ∷ u ∷ v ∷ w ∷ ts) a =
    more_data t.0 (u.0 ∷ v.0 ∷ w.0 ∷ []) a.0
    (more_data u.0 (v.0 ∷ w.0 ∷ []) a.1.0
    (more_data v.0 (w.0 ∷ []) a.1.1.0 (more_data w.0 [] a.1.1.1.0 refl)))

pub step_texts : (ts : List Text) → 1 ≤ length ts → Each (λ t. is_text t.0 ≡ true) ts → is_step (step_from (map (λ t. t.0) ts)) ≡ true
unfolding is_step
step_texts [] h a = absurd (omega arith)
step_texts (t ∷ ts) h a = rw a.0 (data_texts ts a.1)

pub read_is_step : ReadIsStep
unfolding read_step
read_is_step fs s e = go (leb 1 (length fs)) (leb (length fs) 5) (read_fields read_text (length fs) fs) refl refl e
  where
    go :
        (a b : Bool) (o : Option (List Text)) →
        leb 1 (length fs) ≡ a →
        read_fields read_text (length fs) fs ≡ o →
        cond (a && b) (option_map (λ ts. step_from (map (λ t. t.0) ts)) o) None ≡ Some s →
        is_step s ≡ true
    go true true (Some ts) p q e =
        let r = fields_each (λ t. is_text t.0 ≡ true) read_text read_is_text (length fs) fs ts q in
        rw (← same_Some (step_from (map (λ t. t.0) ts)) s e)
        (step_texts ts (omega (arith, r.1, leb-true 1 (length fs) p)) r.0)
    go true true None p q e = absurd (none-some s e)
    go true false o p q e = absurd (none-some s e)
    go false b o p q e = absurd (none-some s e)
