-- Laws of the bytes of a text: written, and read by position.
use Prim.Native.Nat.{ℕ, zero, suc, ◌+◌, ◌-◌, ◌*◌, ◌/◌, ◌^◌, ◌≤◌, ◌<◌}
use mathlib.Core.Path.{◌≡◌, refl, sym, ap, ◌∙◌}
use mathlib.Core.Bool.{Bool, true, false, cond}
use mathlib.Core.List.{List, [], ◌∷◌, ◌++◌, append_assoc}
use native.Mathlib.Nat.{add-zero, pow-zero, div-one}
use borrow.Rule.Slice.PartMut.{put_mid, Post-is}
use Rattle.std.specs.Int.{w64, bytes_low_first, to_le_bytes}
use Rattle.std.proofs.lemmas.List.Edits.{sets, sets-eq}
use native.Mathlib.Omega.{arith}
use lib.ListN.{length, get_or, take, drop, replicate, length-append, length-drop, get_or-append}
use lib.Seq.{length-take-le, get_or-take, get_or-drop, get_or-append_seam}
use Rattle.text.specs.Put.{PutAt}
use Rattle.steps.specs.Text.{is_char, all_chars, pack}
use Rattle.steps.proofs.Laws.{byte_is, above, all_none, all_cons, pack_none, pack_cons, pack_small}
use Rattle.programs.specs.Memory.{bytes_in, bytes_of, chars_at, packed_at, added_to}

-- ---- bytes written

pub bytes_length : (k n : ℕ) → length (bytes_in k n) ≡ k
unfolding bytes_in
bytes_length zero n = refl
bytes_length (suc k) n = ap suc (bytes_length k (n / 256))

bytes_low : (k i n : ℕ) → bytes_low_first i k n ≡ bytes_in k (n / 256 ^ i)
unfolding bytes_in
bytes_low zero i n = refl
bytes_low (suc k) i n = rw (byte_is i n, bytes_low k (suc i) n, above i n)

-- the bytes of a text are those of its number, lowest first
pub bytes_le : (n : ℕ) → to_le_bytes w64 n ≡ bytes_of n
bytes_le n = bytes_low 8 0 n ∙ rw (pow-zero 256, div-one n)

-- they replace a part of the memory
pub part_put : (xs : List ℕ) (at n : ℕ) (ys : List ℕ) → at + 8 ≤ length xs → ys ≡ bytes_of n → put_mid at (at + 8 - at) xs ys ≡ sets xs at (bytes_of n)
part_put xs at n ys h e =
    let l : at + length (bytes_of n) ≡ at + 8 = omega (arith, bytes_length 8 n) in
    rw (Post-is at (at + 8) xs (omega arith), e, sets-eq (bytes_of n) xs at (omega arith), l)
    (sym (append_assoc (take at xs) (bytes_of n) (drop (at + 8) xs)))

-- the index after eight bytes
pub eight : {xs : List ℕ} {at : ℕ} (n : ℕ) {r : ℕ} {ys : List ℕ} → PutAt xs at (bytes_of n) r ys → r ≡ at + 8
eight n p = omega (arith, p.next, bytes_length 8 n)

-- ---- bytes read, from the last to the first

-- no byte, and one byte more before the others
pack_at_none : (m : List ℕ) (p : ℕ) → pack (chars_at 0 m p) ≡ 0
unfolding chars_at
pack_at_none m p = pack_none

pack_at_more : (m : List ℕ) (k p : ℕ) → pack (chars_at (suc k) m p) ≡ added_to (pack (chars_at k m (suc p))) (get_or m p 0)
unfolding chars_at added_to
pack_at_more m k p = go (is_char (get_or m p 0))
  where
    go : (t : Bool) → pack (cond t (get_or m p 0 ∷ chars_at k m (suc p)) []) ≡ cond t (pack (chars_at k m (suc p)) * 256 + get_or m p 0) 0
    go true = pack_cons _ _
    go false = pack_none

pub chars_at_short : (k : ℕ) (m : List ℕ) (p : ℕ) → length (chars_at k m p) ≤ k
unfolding chars_at
chars_at_short zero m p = omega arith
chars_at_short (suc k) m p = go (is_char (get_or m p 0)) (chars_at_short k m (suc p))
  where
    go : (t : Bool) → length (chars_at k m (suc p)) ≤ k → length (cond t (get_or m p 0 ∷ chars_at k m (suc p)) []) ≤ suc k
    go true h = omega arith
    go false h = omega arith

pub chars_at_all : (k : ℕ) (m : List ℕ) (p : ℕ) → all_chars (chars_at k m p) ≡ true
unfolding chars_at
chars_at_all zero m p = all_none
chars_at_all (suc k) m p = go (is_char (get_or m p 0)) refl (chars_at_all k m (suc p))
  where
    go : (t : Bool) → is_char (get_or m p 0) ≡ t → all_chars (chars_at k m (suc p)) ≡ true → all_chars (cond t (get_or m p 0 ∷ chars_at k m (suc p)) []) ≡ true
    go true e h = all_cons _ _ e ∙ h
    go false e h = all_none

pack_at_small : (m : List ℕ) (k p : ℕ) → k ≤ 7 → pack (chars_at k m p) < 256 ^ 7
pack_at_small m k p h = pack_small 7 (chars_at k m p) (omega (arith, chars_at_short k m p)) (chars_at_all k m p)

-- of the eight bytes at p, `rest` is unread, and n packs the characters behind it
pub record Read (m : List ℕ) (p : ℕ) (rest : List ℕ) (n : ℕ) : Type 0 where
  pub few : length rest ≤ 8
  pub same : (i : ℕ) → i < length rest → get_or rest i 0 ≡ get_or m (p + i) 0
  pub packs : n ≡ pack (chars_at (8 - length rest) m (p + length rest))

pub read_none : (m : List ℕ) (p : ℕ) (rest : List ℕ) → p + 8 ≤ length m → rest ≡ take 8 (drop p m) → Read m p rest 0
read_none m p rest h e =
    let l : length rest ≡ 8 = rw e (length-take-le 8 (drop p m) (simp length-drop (omega arith))) in
    record {
      few = omega arith;
      same = λ i k. rw e (get_or-take 8 (drop p m) i 0 (omega arith) ∙ get_or-drop p m i 0);
      packs = rw l (sym (pack_at_none m (p + 8)));
    }

pub read_all : {m : List ℕ} {p : ℕ} {rest : List ℕ} {n : ℕ} → Read m p rest n → length rest ≡ 0 → n ≡ packed_at m p
unfolding packed_at
read_all {p = p} r z = r.packs ∙ rw (z, add-zero p)

-- the next byte
module _ {m : List ℕ} {p : ℕ} {rest : List ℕ} {n : ℕ} (r : Read m p rest n) (front : List ℕ) (b : ℕ) (e : rest ≡ front ++ (b ∷ [])) where
  one_less : length rest ≡ length front + 1
  one_less = ap length e ∙ length-append front (b ∷ [])

  pub read_small : n < 256 ^ 7
  read_small = rw r.packs (pack_at_small m (8 - length rest) (p + length rest) (omega (arith, one_less)))

  pub read_more : Read m p front (added_to n b)
  read_more =
      let k : ℕ = length front in
      let l : k < length rest = omega (arith, one_less) in
      let here : b ≡ get_or m (p + k) 0 = sym (get_or-append_seam front b [] 0) ∙ rw (← e) (r.same k l) in
      let s : 8 - k ≡ suc (8 - length rest) = omega (arith, one_less, r.few) in
      let q : suc (p + k) ≡ p + length rest = omega (arith, one_less) in
      record {
        few = omega (arith, r.few);
        same = λ i h. sym (get_or-append front (b ∷ []) 0 i h) ∙ rw (← e) (r.same i (omega arith));
        packs = rw (s, here, r.packs, pack_at_more m (8 - length rest) (p + k), q);
      }

-- ---- zeros

pub zeros_at : (n i : ℕ) → ◌≡◌ {A = ℕ} (get_or (replicate n 0) i 0) 0
zeros_at zero i = refl
zeros_at (suc n) zero = refl
zeros_at (suc n) (suc i) = zeros_at n i
