-- Laws of a text that is written in parts.
use Prim.Native.Nat.{ℕ, ◌+◌}
use mathlib.Core.Path.{◌≡◌, refl, sym, ◌∙◌}
use mathlib.Core.List.{List, [], ◌++◌}
use native.Mathlib.Omega.{arith}
use lib.ListN.{length, length-append}
use lib.Seq.{sets}
use Rattle.text.specs.Put.{Put, xor_onto}
use Rattle.text.specs.declared.put.Cursor.{Cursor}
use Rattle.text.proofs.Laws.{sets_append, xor_append}

-- the area ys, with what is left written at p, is xs with the whole text at `to`
pub record Left (xs : List ℕ) (to : Cursor) (whole ys : List ℕ) (p : Cursor) (left : List ℕ) : Type 0 where
  pub size : length ys ≡ length xs
  pub next : p.at + length left ≡ to.at + length whole
  pub sum : xor_onto p.sum left ≡ xor_onto to.sum whole
  pub area : sets ys p.at left ≡ sets xs to.at whole

-- nothing is written yet
pub begun : {xs : List ℕ} {to : Cursor} {whole : List ℕ} → Left xs to whole xs to whole
begun = record { size = refl; next = refl; sum = refl; area = refl }

-- a part is written
pub moved : {xs : List ℕ} {to : Cursor} {whole ys : List ℕ} {p : Cursor} (us : List ℕ) {left : List ℕ} {q : Cursor} {zs : List ℕ} → Left xs to whole ys p (us ++ left) → Put ys p us q zs → length zs ≡ length ys → Left xs to whole zs q left
moved {ys = ys} {p = p} us {left} h w l = record {
  size = l ∙ h.size;
  next = omega (arith, h.next, w.next, length-append us left);
  sum = simp w.sum (sym (xor_append p.sum us left) ∙ h.sum);
  area = simp (w.area, w.next) (sym (sets_append ys p.at us left) ∙ h.area);
}

-- nothing is left
pub done : {xs : List ℕ} {to : Cursor} {whole ys : List ℕ} {p : Cursor} → Left xs to whole ys p [] → Put xs to whole p ys
unfolding xor_onto
done h = record { next = omega (arith, h.next); sum = h.sum; area = h.area }
