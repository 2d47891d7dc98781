-- What is read of a slice, by the checks that it passes.
use Prim.Native.Nat.{ℕ, suc, ◌+◌, ◌-◌, ◌≤◌, ◌<◌}
use mathlib.Core.Path.{◌≡◌, ap, ◌∙◌}
use mathlib.Core.Bool.{Bool, true, cond, not}
use mathlib.Core.List.{List, [], ◌∷◌, ◌++◌}
use native.Mathlib.Omega.{arith}
use native.Mathlib.Numerals.{add-one}
use borrow.Author.Tests.{lt-ltb, le-ltb, eq-eqb, ne_eqb}
use lib.Bits.{bit_xor}
use lib.Dec.{ltb, eqb}
use lib.ListN.{length, get_or, take, drop, length-drop}
use lib.Seq.{slice, take-suc, get_or-drop}
use Rattle.text.proofs.Laws.{xor_append}
use Rattle.text.specs.Put.{xor_onto}
use Rattle.frame.specs.Checksum.{lrc_of}
use Rattle.frame.specs.Frame.{refused_frame, stray, inner, read_inner, read_frame, frame_position}
use Rattle.frame.proofs.Laws.{part_is}

-- ---- checks 2 to 4 are passed

-- one byte more
lrc_snoc : (s : List ℕ) (b : ℕ) → lrc_of (s ++ (b ∷ [])) ≡ bit_xor (lrc_of s) b
unfolding lrc_of xor_onto
lrc_snoc s b = xor_append 0 s (b ∷ [])

-- ETX is the last byte of what is summed
module _ (s : List ℕ) (low : 6 ≤ length s) (high : length s ≤ 255) (start : get_or s 0 0 ≡ 2)
    (end : get_or s (length s - 2) 0 ≡ 3) where
  summed : lrc_of (slice 1 (length s - 1) s) ≡ bit_xor (lrc_of (inner s)) 3
  summed = ap lrc_of cut ∙ lrc_snoc (inner s) 3
    where
      cut : slice 1 (length s - 1) s ≡ inner s ++ (3 ∷ [])
      cut =
          let n : length s - 1 - 1 ≡ suc (length s - 2 - 1) = omega arith in
          let k : 1 + (length s - 2 - 1) ≡ length s - 2 = omega arith in
          rw (
            ← part_is 1 (length s - 1) s,
            ← part_is 1 (length s - 2) s,
            n,
            take-suc (drop 1 s) (length s - 2 - 1) 0 (omega (arith, length-drop 1 s)),
            get_or-drop 1 s (length s - 2 - 1) 0,
            k,
            end,
          )

  -- checks 5 to 7 are left
  past_end :
      let sound : Bool = eqb (get_or s (length s - 1) 0) (bit_xor (lrc_of (inner s)) 3) in
      read_frame s ≡ cond (not sound) (refused_frame 5) (read_inner (inner s))
  unfolding read_frame
  past_end =
      rw (
        le-ltb (length s) 6 low,
        le-ltb 255 (length s) high,
        eq-eqb (get_or s 0 0) 2 start,
        eq-eqb (get_or s (length s - 2) 0) 3 end,
        summed,
      )

-- ---- the checks, one after the other; the code cuts the text between STX and ETX at its start first

module _ (s : List ℕ) where
  pub too_short : length s < 6 → read_frame s ≡ refused_frame 2
  unfolding read_frame
  too_short h = rw (lt-ltb (length s) 6 h)

  pub too_long : 255 < length s → read_frame s ≡ refused_frame 2
  unfolding read_frame
  too_long h = rw (le-ltb (length s) 6 (omega arith), lt-ltb 255 (length s) h)

  module _ (low : 6 ≤ length s) (high : length s ≤ 255) where
    pub no_start : (get_or s 0 0 ≡ 2 → ⊥) → read_frame s ≡ refused_frame 3
    unfolding read_frame
    no_start n = rw (le-ltb (length s) 6 low, le-ltb 255 (length s) high, ne_eqb (get_or s 0 0) 2 n)

    module _ (start : get_or s 0 0 ≡ 2) where
      pub no_end : (get_or s (length s - 2) 0 ≡ 3 → ⊥) → read_frame s ≡ refused_frame 4
      unfolding read_frame
      no_end n =
          rw (
            le-ltb (length s) 6 low,
            le-ltb 255 (length s) high,
            eq-eqb (get_or s 0 0) 2 start,
            ne_eqb (get_or s (length s - 2) 0) 3 n,
          )

      module _ (end : get_or s (length s - 2) 0 ≡ 3) where
        pub no_lrc : (get_or s (length s - 2 + 1) 0 ≡ bit_xor (lrc_of (take (length s - 2 - 1) (drop 1 s))) 3 → ⊥) → read_frame s ≡ refused_frame 5
        no_lrc n =
            let e : length s - 2 + 1 ≡ length s - 1 = omega arith in
            past_end s low high start end ∙ rw (ne_eqb _ _ (rw (e, part_is) at n))

        pub is_inner : get_or s (length s - 2 + 1) 0 ≡ bit_xor (lrc_of (take (length s - 2 - 1) (drop 1 s))) 3 → read_frame s ≡ read_inner (take (length s - 2 - 1) (drop 1 s))
        is_inner l =
            let e : length s - 2 + 1 ≡ length s - 1 = omega arith in
            past_end s low high start end ∙ rw (eq-eqb _ _ (rw (e, part_is) at l), part_is)

pub inner_stray : (t : List ℕ) → ltb (stray t) (length t) ≡ true → read_inner t ≡ refused_frame 6
unfolding read_inner
inner_stray t e = rw e

-- ---- where the slice is wrong

-- for no number below 6
pub no_position : (s : List ℕ) (n : ℕ) → n < 6 → frame_position s n ≡ 0
unfolding frame_position
no_position s n h = rw (ne_eqb n 6 (λ e. omega arith), ne_eqb n 7 (λ e. omega arith))

pub stray_position : (s : List ℕ) (n : ℕ) → n ≡ 6 → frame_position s n ≡ stray (take (length s - 2 - 1) (drop 1 s)) + 1
unfolding frame_position
stray_position s n e = rw (eq-eqb n 6 e, part_is, add-one)

-- for `read_frame`
pub ruleset checks = (too_short, too_long, no_start, no_end, no_lrc, is_inner, inner_stray, no_position, stray_position)
