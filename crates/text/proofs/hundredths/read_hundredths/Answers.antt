use Rattle.std.proofs.Common.{subst}
use Rattle.text.specs.Hundredths.{Small, magnitude}
use Rattle.text.proofs.Decimals.{magnitude_small}
use Rattle.text.proofs.Read.{with_read}
use Rattle.text.proofs.hundredths.read_hundredths.Goals as goal

pub with_sign-requires : goal.with_sign-requires
with_sign-requires c =
    subst Small (with_read magnitude c.after_sign-digits.result.text.now c.after_sign-digits.result.index c.in-Some.ensures).0 (magnitude_small _)
