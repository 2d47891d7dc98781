-- The number kept beside ports stays the ones counted over them.
use Prim.Native.Nat.{ℕ, zero, suc, ◌+◌, ◌-◌, ◌%◌, ◌≤◌, ◌<◌}
use mathlib.Core.Path.{◌≡◌, refl, ap, ◌∙◌}
use mathlib.Core.List.{List}
use native.Mathlib.Omega.{arith}
use native.Mathlib.Decide.{ℕ_discrete}
use native.Mathlib.Nat.{mod-eq_of_lt, add-mod_right}
use borrow.Author.Tests.{eqb-true}
use lib.Count.{ones_in, ones, ones-le}
use lib.Dec.{eqb}
use lib.ListN.{length, get_or, set}
use lib.Seq.{get_or-set_same, get_or-set_other}
use Rattle.ports.specs.On.{signals_on, bits_on, OnesAreBits, EightAPort, MovedTrue}
use Rattle.ports.proofs.Laws.{all_at}

pub ones_are_bits : OnesAreBits
unfolding ones ones_in
ones_are_bits b h = eqb-true (ones b) (bits_on b) (all_at 256 (λ b. eqb (ones b) (bits_on b)) refl b h)

pub eight_a_port : EightAPort
unfolding signals_on
eight_a_port zero ports h = omega arith
eight_a_port (suc n) ports h = omega (arith, eight_a_port n ports h, ones-le 8 (get_or ports n 0) (h n))

module _ (ports : List ℕ) (p v : ℕ) where
  -- ports before the one written count as they did
  before : (n : ℕ) → n ≤ p → signals_on n (set ports p v) ≡ signals_on n ports
  unfolding signals_on
  before zero h = refl
  before (suc n) h = rw (before n (omega arith), get_or-set_other ports p n v 0 (λ e. omega arith))

  -- with the ones of the byte that was there, the count after is the count before with those of the new byte
  balance : (n : ℕ) → p < n → p < length ports → signals_on n (set ports p v) + ones (get_or ports p 0) ≡ signals_on n ports + ones v
  unfolding signals_on
  balance zero h l = absurd (omega arith)
  balance (suc n) h l = go (ℕ_discrete n p) (λ m. balance n m l)
    where
      go : Dec (n ≡ p)
          → (p < n → signals_on n (set ports p v) + ones (get_or ports p 0) ≡ signals_on n ports + ones v)
          → signals_on n (set ports p v) + ones (get_or (set ports p v) n 0) + ones (get_or ports p 0) ≡ signals_on n ports + ones (get_or ports n 0) + ones v
      go (yes e) ih = rw (e, before p (omega arith), get_or-set_same ports p v 0 l) (omega arith)
      go (no e) ih = rw (get_or-set_other ports p n v 0 e) (omega (arith, ih (omega arith)))

pub moved_true : MovedTrue
moved_true n ports p v h l small =
    let next : ℕ = signals_on n (set ports p v) in
    let e : signals_on n ports + ones v + 65536 - ones (get_or ports p 0) ≡ next + 65536 = omega (arith, balance ports p v n h l) in
    ap (λ x. x % 65536) e ∙ add-mod_right next 65536 ∙ mod-eq_of_lt small
