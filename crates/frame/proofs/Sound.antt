-- A frame that is accepted is STX, bytes from 20h to 7Eh, ETX and one byte more.
use Prim.Native.Nat.{ℕ, zero, suc, ◌+◌, ◌-◌, ◌≤◌}
use mathlib.Core.Path.{◌≡◌, refl, sym, ap, ◌∙◌}
use mathlib.Core.Bool.{Bool, true, false, cond}
use mathlib.Core.List.{List, [], ◌∷◌, ◌++◌}
use native.Mathlib.Omega.{arith}
use borrow.Author.Tests.{ltb-false}
use lib.Dec.{ltb}
use lib.ListN.{length, get_or, take, drop, take-append-drop}
use lib.Seq.{drop-cons, get_or-take, length-take-le}
use Rattle.text.specs.Scan.{until}
use Rattle.text.proofs.Laws.{here, over}
use Rattle.frame.specs.Frame.{Reading, is_stray, stray, Printable, inner, read_inner, read_frame}
use Rattle.frame.proofs.Placed.{passed, past, neither, inner_length}

-- where no byte is stray, every byte is one from 20h to 7Eh
pub printable : (t : List ℕ) → length t ≤ stray t → Printable t
unfolding until
printable [] h = tt
printable (b ∷ t) h = go (is_stray b) refl h (λ k. printable t k)
  where
    go : (u : Bool) → is_stray b ≡ u → suc (length t) ≤ cond u zero (suc (stray t)) → (length t ≤ stray t → Printable t) → Printable (b ∷ t)
    go true e k f = absurd (omega arith)
    go false e k f =
        let n = neither (ltb b 32) (ltb 126 b) e in
        ((ltb-false b 32 n.0, ltb-false 126 b n.1), f (omega arith))

pub record Sound (s : List ℕ) : Type 0 where
  pub text : List ℕ
  pub lrc : ℕ
  pub frame_is : s ≡ 2 ∷ (text ++ (3 ∷ lrc ∷ []))
  pub text_is : Printable text
  pub fits : length text ≤ 252

-- no byte of an accepted text is stray
clean : (t : List ℕ) → (read_inner t).number ≡ 0 → length t ≤ stray t
unfolding read_inner
clean t e = ltb-false (stray t) (length t) (past (ltb (stray t) (length t)) 6 _ (λ z. omega arith) e).0

module _ (s : List ℕ) (h : 3 ≤ length s) where
  -- what stands before ETX, and ETX with the last byte
  before_etx : take (length s - 2) s ≡ get_or s 0 0 ∷ inner s
  before_etx =
      let t : List ℕ = take (length s - 2) s in
      drop-cons t 0 0 (omega (arith, length-take-le (length s - 2) s (omega arith)))
      ∙ ap (λ (b : ℕ). b ∷ inner s) (get_or-take (length s - 2) s 0 0 (omega arith))

  from_etx : drop (length s - 2) s ≡ get_or s (length s - 2) 0 ∷ get_or s (length s - 1) 0 ∷ []
  from_etx =
      let a : length s - 2 + 1 ≡ length s - 1 = omega arith in
      let b : length s - 1 + 1 ≡ length s = omega arith in
      rw (here s (length s - 2) (omega arith), a, here s (length s - 1) (omega arith), b, over s (length s) (omega arith))

pub sound : (s : List ℕ) → (read_frame s).number ≡ 0 → Sound s
sound s e =
    let p = passed s 0 (λ k a b z. omega arith) e in
    let l : 3 ≤ length s = omega (arith, p.low) in
    record {
      text = inner s;
      lrc = get_or s (length s - 1) 0;
      frame_is = sym (take-append-drop (length s - 2) s) ∙ rw (before_etx s l, from_etx s l, p.stx, p.etx);
      text_is = printable (inner s) (clean (inner s) (ap (λ (o : Reading). o.number) (sym p.inner_is) ∙ e));
      fits = omega (arith, inner_length s, p.high);
    }
