-- Laws about lines: a line from an index on, what a call's digits are, when a line is read as a call, and the
-- length of what is written.
use Prim.Native.Nat.{ℕ, zero, suc, ◌+◌, ◌*◌, ◌/◌, ◌%◌, ◌≤◌, ◌<◌}
use mathlib.Core.Path.{◌≡◌, refl}
use mathlib.Core.Bool.{Bool, true, false, cond, ◌&&◌}
use mathlib.Core.List.{List, [], ◌∷◌, ◌++◌}
use native.Mathlib.Omega.{arith}
use Rattle.std.specs.Prelude.{None, Some}
use Rattle.std.specs.List.{list_all}
use borrow.Author.Tests.{ltb-true, leb-true, eqb-true}
use lib.ListN.{length, get_or, take, drop, length-append}
use lib.Seq.{sets, sets-eq, length-sets, take_at, length-take-le}
use lib.Dec.{ltb}
use Rattle.text.specs.Put.{PutAt}
use Rattle.text.proofs.Laws.{here, over}
use Rattle.text.proofs.Digits.{digit_length}
use Rattle.lines.specs.Lines.{value, all_capitals, is_call, slice_of, line_of, held_after, capital, hex_text, reply_text, answer_line}

-- ---- digits

-- each character passes
pub capitals_all : (s : List ℕ) → list_all (λ b. ltb (value b) 16) s ≡ all_capitals s
unfolding all_capitals
capitals_all [] = refl
capitals_all (b ∷ s) = rw (capitals_all s)

-- both tests pass where their conjunction does
pub both : (a b : Bool) → a && b ≡ true → (a ≡ true) × (b ≡ true)
both true b e = (refl, e)
both false true e = (e, refl)
both false false e = (e, e)

-- each digit is below 16
pub digit_at : (s : List ℕ) → all_capitals s ≡ true → (i : ℕ) → i < length s → value (get_or s i 0) < 16
unfolding all_capitals
digit_at [] e i h = absurd (omega arith)
digit_at (b ∷ s) e zero h = ltb-true _ _ (both (ltb (value b) 16) (all_capitals s) e).0
digit_at (b ∷ s) e (suc i) h = digit_at s (both (ltb (value b) 16) (all_capitals s) e).1 i (omega arith)

-- what a call's line has
pub record Call (s : List ℕ) : Type 0 where
  pub short : length s ≤ 512
  pub even : length s % 2 ≡ 0
  pub digits : all_capitals s ≡ true

pub call_is : (s : List ℕ) → is_call s ≡ true → Call s
unfolding is_call
call_is s e =
    let p = both _ _ e in
    let q = both _ _ p.1 in
    record { short = leb-true _ _ p.0; even = eqb-true _ _ q.0; digits = q.1 }

-- ---- a slice from its digits

pub slice_more : (s : List ℕ) (i : ℕ) → i + 1 < length s → slice_of (drop i s) ≡ (value (get_or s i 0) * 16 + value (get_or s (i + 1) 0)) ∷ slice_of (drop (i + 2) s)
unfolding slice_of
slice_more s i h =
    let e : i + 1 + 1 ≡ i + 2 = omega arith in
    rw (here s i (omega arith), here s (i + 1) h, e)

pub slice_end : (s : List ℕ) (i : ℕ) → length s ≤ i → slice_of (drop i s) ≡ []
unfolding slice_of
slice_end s i h = rw (over s i h)

-- the lent bytes stay as many as they are
pub held_length : (xs s : List ℕ) → length (held_after xs s) ≡ length xs
unfolding held_after
held_length xs s = go (is_call s)
  where
    go : (t : Bool) → length (cond t (sets xs 0 (slice_of s)) xs) ≡ length xs
    go true = length-sets xs 0 (slice_of s)
    go false = refl

-- ---- a line read as a slice, and as no call

pub read_slice : (s : List ℕ) (n : ℕ) → line_of s ≡ Some n → (is_call s ≡ true) × (n ≡ length (slice_of s))
unfolding line_of
read_slice s n e = go (is_call s) refl e
  where
    go : (t : Bool) → is_call s ≡ t → cond t (Some (length (slice_of s))) None ≡ Some n → (is_call s ≡ true) × (n ≡ length (slice_of s))
    go true q e = (q, cc)
    go false q e = cc

pub read_no_call : (s : List ℕ) → line_of s ≡ None → is_call s ≡ false
unfolding line_of
read_no_call s e = go (is_call s) refl e
  where
    go : (t : Bool) → is_call s ≡ t → cond t (Some (length (slice_of s))) None ≡ None → is_call s ≡ false
    go true q e = cc
    go false q e = q

-- ---- what is written

pub hex_more : (s : List ℕ) (i : ℕ) → i < length s → hex_text (drop i s) ≡ capital (get_or s i 0 / 16) ∷ (capital (get_or s i 0 % 16) ∷ hex_text (drop (i + 1) s))
unfolding hex_text
hex_more s i h = rw (here s i h)

pub hex_end : (s : List ℕ) (i : ℕ) → length s ≤ i → hex_text (drop i s) ≡ []
unfolding hex_text
hex_end s i h = rw (over s i h)

pub hex_length : (s : List ℕ) → length (hex_text s) ≡ 2 * length s
unfolding hex_text
hex_length [] = refl
hex_length (b ∷ s) = omega (arith, hex_length s)

pub reply_none : (s : List ℕ) → length s ≡ 0 → reply_text s ≡ []
unfolding reply_text
reply_none [] e = refl
reply_none (b ∷ s) e = absurd (omega arith)

pub reply_some : (s : List ℕ) → (length s ≡ 0 → ⊥) → reply_text s ≡ 32 ∷ hex_text s
unfolding reply_text
reply_some [] n = absurd (n refl)
reply_some (b ∷ s) n = refl

pub reply_length : (s : List ℕ) → length (reply_text s) ≤ 2 * length s + 1
unfolding reply_text
reply_length [] = omega arith
reply_length (b ∷ s) = omega (arith, hex_length (b ∷ s))

pub answer_length : (n : ℕ) (s : List ℕ) → length (answer_line n s) ≡ length (reply_text s) + 3
unfolding answer_line
answer_length n s = simp (length-append, digit_length) (omega arith)

-- a number, a space, two digits for each byte, LF
pub answer_short : (n : ℕ) (s : List ℕ) → length (answer_line n s) ≤ 2 * length s + 4
answer_short n s = omega (arith, answer_length n s, reply_length s)

-- ---- bytes put behind others

-- bytes put at an index stand behind those before it
pub put_behind : {xs vs ys : List ℕ} {at r : ℕ} → PutAt xs at vs r ys → r ≤ length xs → take r ys ≡ take at xs ++ vs
put_behind {xs} {vs} {ys} {at} {r} p h =
    let n : r ≡ at + length vs = p.next in
    let q : length (take at xs) ≡ at = length-take-le at xs (omega arith) in
    let k : length (take at xs ++ vs) ≡ r = omega (arith, length-append (take at xs) vs) in
    rw (p.area, sets-eq vs xs at (omega arith)) (take_at (take at xs ++ vs) (drop (at + length vs) xs) r k)
