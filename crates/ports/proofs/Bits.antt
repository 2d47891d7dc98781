-- A byte and its bits.
use Prim.Native.Nat.{ℕ, zero, suc, ◌+◌, ◌-◌, ◌*◌, ◌/◌, ◌%◌, ◌^◌, ◌<◌}
use mathlib.Core.Path.{◌≡◌, refl}
use mathlib.Core.Bool.{Bool, ◌||◌}
use native.Mathlib.Omega.{arith}
use borrow.Author.Tests.{eqb-true, ne_eqb}
use lib.Dec.{eqb}
use Rattle.ports.specs.Bits.{bit, with_bit, BitStored, OtherBitsKept, sum, PortIsSum}
use Rattle.ports.proofs.Laws.{all, all_at}

-- what the last step of `with_bit` asks at bit k of the byte b and the new bit v, and what it leaves there
pub record Steps (b k v : ℕ) : Type 0 where
  pub sum : b - b / 2 ^ k % 2 * (1 * 2 ^ k % 256) + v * (1 * 2 ^ k % 256) < 256
  pub byte : with_bit b k v < 256
  pub same : bit (with_bit b k v) k ≡ v

pub steps : (b k v : ℕ) → b < 256 → k < 8 → v < 2 → Steps b k v
steps b zero v hb hk hv = omega arith
steps b (suc zero) v hb hk hv = omega arith
steps b (suc (suc zero)) v hb hk hv = omega arith
steps b (suc (suc (suc zero))) v hb hk hv = omega arith
steps b (suc (suc (suc (suc zero)))) v hb hk hv = omega arith
steps b (suc (suc (suc (suc (suc zero))))) v hb hk hv = omega arith
steps b (suc (suc (suc (suc (suc (suc zero)))))) v hb hk hv = omega arith
steps b (suc (suc (suc (suc (suc (suc (suc zero))))))) v hb hk hv = omega arith
steps b (suc (suc (suc (suc (suc (suc (suc (suc k)))))))) v hb hk hv = omega arith

module _ (b k v : ℕ) (hb : b < 256) (hk : k < 8) (hv : v < 2) where
  pub with_bit_byte : with_bit b k v < 256
  with_bit_byte = (steps b k v hb hk hv).byte

pub bit_same : BitStored
bit_same b k v hb hk hv = (steps b k v hb hk hv).same

-- bit j is as it was, where j is not k
abbrev kept : ℕ → ℕ → ℕ → ℕ → Bool
kept b k v j = eqb j k || eqb (bit (with_bit b k v) j) (bit b j)

pub bit_other : OtherBitsKept
bit_other b k v j hb hk hv hj n =
    eqb-true _ _
    (rw (ne_eqb j k n) at (all_at 8 (kept b k v)
    (all_at 2 (λ v. all 8 (kept b k v))
    (all_at 8 (λ k. all 2 (λ v. all 8 (kept b k v)))
    (all_at 256 (λ b. all 8 (λ k. all 2 (λ v. all 8 (kept b k v)))) refl b hb) k hk) v hv) j hj))

pub port_is_sum : PortIsSum
port_is_sum b h = eqb-true b (sum b) (all_at 256 (λ b. eqb b (sum b)) refl b h)
