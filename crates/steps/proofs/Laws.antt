-- Laws of characters: one step of each loop over them, what a packed list is.
use Prim.Native.Nat.{ℕ, zero, suc, ◌+◌, ◌-◌, ◌*◌, ◌/◌, ◌%◌, ◌^◌, ◌≤◌, ◌<◌}
use mathlib.Core.Path.{◌≡◌, refl, sym, ap, ◌∙◌}
use mathlib.Core.Bool.{Bool, true, false, cond, ◌&&◌}
use mathlib.Core.List.{List, [], ◌∷◌, ◌++◌, append-nil, append_assoc}
use Rattle.std.specs.Prelude.{None, Some}
use native.Mathlib.Omega.{arith}
use native.Mathlib.Nat.{pow-zero, pow-suc, div-one, div-div-eq-div-mul}
use borrow.Author.Tests.{le-leb, leb-true, eq-eqb, ne_eqb}
use lib.Dec.{leb, eqb}
use lib.ListN.{length, get_or, drop, length-append}
use Rattle.std.specs.Int.{w64, byte_at, bytes_low_first, to_le_bytes}
use Rattle.text.proofs.Laws.{here, over}
use Rattle.steps.specs.Text.{is_char, chars_in, chars_of, only_chars, is_text, all_chars, pack, read_text, text}
use Rattle.steps.specs.Step.{up_to}

-- ---- a character or not

pub char_low : (b : ℕ) → is_char b ≡ true → 33 ≤ b
char_low b e = go (leb 33 b) refl e
  where
    go : (t : Bool) → leb 33 b ≡ t → (t && leb b 126) ≡ true → 33 ≤ b
    go true q e = leb-true 33 b q
    go false q e = let z : ◌≡◌ {A = ℕ} 0 1 = cc in absurd (omega arith)

pub char_high : (b : ℕ) → is_char b ≡ true → b ≤ 126
char_high b e = go (leb 33 b) (leb b 126) refl e
  where
    go : (t u : Bool) → leb b 126 ≡ u → (t && u) ≡ true → b ≤ 126
    go true true q e = leb-true b 126 q
    go true false q e = let z : ◌≡◌ {A = ℕ} 0 1 = cc in absurd (omega arith)
    go false u q e = let z : ◌≡◌ {A = ℕ} 0 1 = cc in absurd (omega arith)

-- ---- the characters of a number

pub chars_stop : (k n : ℕ) → is_char (n % 256) ≡ false → chars_in k n ≡ []
unfolding chars_in
chars_stop zero n e = refl
chars_stop (suc k) n e = rw e

pub chars_more : (k n : ℕ) → 0 < k → is_char (n % 256) ≡ true → chars_in k n ≡ n % 256 ∷ chars_in (k - 1) (n / 256)
unfolding chars_in
chars_more zero n h e = absurd (omega arith)
chars_more (suc k) n h e = let z : suc k - 1 ≡ k = omega arith in rw (e, z)

-- the characters before the first byte that is none
unfoldable pub leading : List ℕ → List ℕ
leading [] = []
leading (b ∷ bs) = cond (is_char b) (b ∷ leading bs) []

module _ (s : List ℕ) (i : ℕ) where
  pub leading_none : length s ≤ i → leading (drop i s) ≡ []
  unfolding leading
  leading_none h = rw (over s i h)

  pub leading_stop : i < length s → is_char (get_or s i 0) ≡ false → leading (drop i s) ≡ []
  unfolding leading
  leading_stop h e = rw (here s i h, e)

  pub leading_more : i < length s → is_char (get_or s i 0) ≡ true → leading (drop i s) ≡ (get_or s i 0 ∷ []) ++ leading (drop (i + 1) s)
  unfolding leading
  leading_more h e = rw (here s i h, e)

-- a byte of a number, and what stands above it
pub byte_is : (i n : ℕ) → byte_at i n ≡ n / 256 ^ i % 256
byte_is zero n = rw (pow-zero 256, div-one n)
byte_is (suc i) n = refl

pub above : (i n : ℕ) → n / 256 ^ suc i ≡ n / 256 ^ i / 256
above i n = rw (pow-suc 256 i) (sym (div-div-eq-div-mul n (256 ^ i) 256))

leading_bytes : (k i n : ℕ) → leading (bytes_low_first i k n) ≡ chars_in k (n / 256 ^ i)
unfolding leading chars_in
leading_bytes zero i n = refl
leading_bytes (suc k) i n = rw (byte_is i n, leading_bytes k (suc i) n, above i n)

-- the characters of a typed text are those at the front of its bytes, lowest first
pub leading_le : (n : ℕ) → leading (to_le_bytes w64 n) ≡ chars_of n
leading_le n = leading_bytes 8 0 n ∙ rw (pow-zero 256, div-one n)

pub only_none : (n : ℕ) → only_chars 0 n ≡ eqb n 0
unfolding only_chars
only_none n = refl

pub only_zero : (k n : ℕ) → n ≡ 0 → only_chars k n ≡ true
unfolding only_chars
only_zero zero n e = eq-eqb n 0 e
only_zero (suc k) n e = rw (eq-eqb n 0 e)

pub only_stop : (k n : ℕ) → 0 < k → (n ≡ 0 → ⊥) → is_char (n % 256) ≡ false → only_chars k n ≡ false
unfolding only_chars
only_stop zero n h z e = absurd (omega arith)
only_stop (suc k) n h z e = rw (ne_eqb n 0 z, e)

pub only_more : (k n : ℕ) → 0 < k → (n ≡ 0 → ⊥) → is_char (n % 256) ≡ true → only_chars k n ≡ only_chars (k - 1) (n / 256)
unfolding only_chars
only_more zero n h z e = absurd (omega arith)
only_more (suc k) n h z e = let p : suc k - 1 ≡ k = omega arith in rw (ne_eqb n 0 z, e, p)

pub text_none : (n : ℕ) → n ≡ 0 → is_text n ≡ false
unfolding is_text
text_none n e = rw (eq-eqb n 0 e)

pub text_some : (n : ℕ) → (n ≡ 0 → ⊥) → is_text n ≡ only_chars 8 n
unfolding is_text
text_some n z = rw (ne_eqb n 0 z)

-- ---- a packed list

pub pack_none : pack [] ≡ 0
unfolding pack
pack_none = refl

pub pack_cons : (b : ℕ) (bs : List ℕ) → pack (b ∷ bs) ≡ pack bs * 256 + b
unfolding pack
pack_cons b bs = refl

pub all_none : all_chars [] ≡ true
unfolding all_chars
all_none = refl

pub all_cons : (b : ℕ) (bs : List ℕ) → is_char b ≡ true → all_chars (b ∷ bs) ≡ all_chars bs
unfolding all_chars
all_cons b bs e = rw e

-- one that is no character
all_stop : (s : List ℕ) (b : ℕ) (bs : List ℕ) → is_char b ≡ false → all_chars (s ++ (b ∷ bs)) ≡ false
unfolding all_chars
all_stop [] b bs e = rw e
all_stop (c ∷ s) b bs e = rw (all_stop s b bs e) (either (is_char c))
  where
    either : (t : Bool) → cond t false false ≡ false
    either true = refl
    either false = refl

-- the first is a character, and so are the others
pub all_first : (b : ℕ) (bs : List ℕ) → all_chars (b ∷ bs) ≡ true → is_char b ≡ true
unfolding all_chars
all_first b bs e = go (is_char b) e
  where
    go : (t : Bool) → cond t (all_chars bs) false ≡ true → t ≡ true
    go true e = refl
    go false e = e

pub all_rest : (b : ℕ) (bs : List ℕ) → all_chars (b ∷ bs) ≡ true → all_chars bs ≡ true
all_rest b bs e = sym (all_cons b bs (all_first b bs e)) ∙ e

pub pack_small : (k : ℕ) (s : List ℕ) → length s ≤ k → all_chars s ≡ true → pack s < 256 ^ k
unfolding pack
pack_small zero [] h e = omega arith
pack_small zero (b ∷ bs) h e = absurd (omega arith)
pack_small (suc k) [] h e = omega (arith, pow-suc 256 k, pack_small k [] (omega arith) e)
pack_small (suc k) (b ∷ bs) h e =
    omega (arith, pow-suc 256 k, pack_small k bs (omega arith) (all_rest b bs e), char_high b (all_first b bs e))

-- ---- a list that is packed from its last byte on

-- the bytes behind `rest` are characters, and n is these, packed
pub record Packed (s rest : List ℕ) (n : ℕ) : Type 0 where
  pub behind : List ℕ
  pub whole : s ≡ rest ++ behind
  pub packs : n ≡ pack behind
  pub chars : all_chars behind ≡ true

pub packed_none : (s rest : List ℕ) → s ≡ rest → Packed s rest 0
packed_none s rest e = record { behind = []; whole = e ∙ sym (append-nil rest); packs = sym pack_none; chars = all_none }

pub packed_all : {s rest : List ℕ} {n : ℕ} → Packed s rest n → length rest ≡ 0 → (n ≡ pack s) × (all_chars s ≡ true)
packed_all {rest = []} p z = (rw p.whole p.packs, rw p.whole p.chars)
packed_all {rest = b ∷ bs} p z = absurd (omega arith)

-- the next byte
module _ {s rest : List ℕ} {n : ℕ} (p : Packed s rest n) (front : List ℕ) (b : ℕ) (e : rest ≡ front ++ (b ∷ [])) where
  next : s ≡ front ++ (b ∷ p.behind)
  next = p.whole ∙ rw e (append_assoc front (b ∷ []) p.behind)

  pub packed_bad : is_char b ≡ false → all_chars s ≡ false
  packed_bad f = rw next (all_stop front b p.behind f)

  pub packed_more : is_char b ≡ true → Packed s front (n * 256 + b)
  packed_more t = record {
    behind = b ∷ p.behind;
    whole = next;
    packs = rw p.packs (sym (pack_cons b p.behind));
    chars = all_cons b p.behind t ∙ p.chars;
  }

  pub packed_small : length s ≤ 8 → n < 256 ^ 7
  packed_small h =
      let l : length p.behind ≤ 7 = omega (arith, ap length next, length-append front (b ∷ p.behind)) in
      rw p.packs (pack_small 7 p.behind l p.chars)

-- ---- a field as a text

pub read_bad : (s : List ℕ) → 1 ≤ length s → length s ≤ 8 → all_chars s ≡ false → read_text s ≡ None
unfolding read_text
read_bad s a b e = rw (le-leb 1 (length s) a, le-leb (length s) 8 b, e)

pub read_good : (s : List ℕ) → 1 ≤ length s → length s ≤ 8 → all_chars s ≡ true → read_text s ≡ Some (text (pack s))
unfolding read_text
read_good s a b e = rw (le-leb 1 (length s) a, le-leb (length s) 8 b, e)

-- ---- the numbers before the first 0

pub up_none : up_to [] ≡ []
unfolding up_to
up_none = refl

pub up_stop : (n : ℕ) (ns : List ℕ) → n ≡ 0 → up_to (n ∷ ns) ≡ []
unfolding up_to
up_stop n ns e = rw (eq-eqb n 0 e)

pub up_more : (n : ℕ) (ns : List ℕ) → (n ≡ 0 → ⊥) → up_to (n ∷ ns) ≡ n ∷ up_to ns
unfolding up_to
up_more n ns z = rw (ne_eqb n 0 z)
