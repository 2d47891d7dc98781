use mathlib.Core.Path.{◌≡◌, refl, ap, ◌∙◌}
use mathlib.Core.Bool.{Bool, true, false}
use mathlib.Core.List.{◌++◌}
use native.Mathlib.Omega.{arith}
use lib.IntN.{ℤ, pos, nat_abs}
use lib.ListN.{length, length-append}
use lib.Signed.{lt_z}
use mir.Facts.{to_z-of_z}
use Rattle.text.specs.Hundredths.{magnitude_text, sign, hundredths_text}
use Rattle.text.proofs.Laws.{put_then}
use Rattle.text.proofs.Decimals.{text_neg, text_pos}
use Rattle.text.proofs.hundredths.put_hundredths.Goals as goal

text_is : (v : ℤ) → hundredths_text v ≡ sign (lt_z v (pos 0)) ++ magnitude_text (nat_abs v)
unfolding sign
text_is v = go (lt_z v (pos 0)) refl
  where
    go : (t : Bool) → lt_z v (pos 0) ≡ t → hundredths_text v ≡ sign t ++ magnitude_text (nat_abs v)
    go true e = text_neg v e
    go false e = text_pos v e

pub put_sign-digits-requires : goal.put_sign-digits-requires
put_sign-digits-requires c =
    rw (to_z-of_z c.ranges.v) (omega (arith, ap length (text_is c.args.v), length-append (sign (lt_z c.args.v (pos 0))) (magnitude_text (nat_abs c.args.v))))

pub put_magnitude-requires : goal.put_magnitude-requires
put_magnitude-requires c =
    let m : c.unsigned_abs-m.result ≡ nat_abs c.args.v = c.unsigned_abs-m.ensures.value ∙ ap nat_abs (to_z-of_z c.ranges.v) in
    rw m (omega (arith, ap length (text_is c.args.v), length-append (sign (lt_z c.args.v (pos 0))) (magnitude_text (nat_abs c.args.v)), c.put_sign-digits.auto.area, rw (to_z-of_z c.ranges.v) at c.put_sign-digits.ensures.next))

pub returns : goal.returns
returns c =
    let m : c.unsigned_abs-m.result ≡ nat_abs c.args.v = c.unsigned_abs-m.ensures.value ∙ ap nat_abs (to_z-of_z c.ranges.v) in
    rw (text_is c.args.v, ← m) (put_then (rw (to_z-of_z c.ranges.v) at c.put_sign-digits.ensures) c.put_magnitude.ensures)
