-- A waiting port is served after at most one service of the other.
use Prim.Native.Nat.{ℕ}
use mathlib.Core.Path.{◌≡◌, refl}
use mathlib.Core.Bool.{Bool, true, false, cond}
use mathlib.Core.List.{[], ◌∷◌}
use native.Mathlib.Omega.{arith}
use borrow.Author.Tests.{eqb-true, eqb-false}
use lib.Dec.{eqb}
use Rattle.chooser.specs.Turn.{none, port_a, port_b, number_of, Buffers, is_waiting, port_picked, pick}
use Rattle.chooser.specs.declared.choose.Port.{Port}
use Rattle.chooser.specs.declared.choose.Port.TheVariants.{A, B}
use Rattle.chooser.specs.Fair.{Waits, picks, Fair}
use Rattle.chooser.proofs.Picks.{waits_true}

-- the port goes when both wait
abbrev First : Port → ℕ → Type 0
First A turn = turn ≡ port_a → ⊥
First B turn = turn ≡ port_a

-- a port that waits and is not named did not go first, and does next
passed : (p : Port) (h : Buffers) (turn : ℕ) → Waits p h → ((pick h turn).port ≡ number_of p → ⊥) → (First p turn → ⊥) × First p (pick h turn).turn
unfolding pick port_picked
passed A h turn w k = rw (waits_true A h w) (go (is_waiting h.b h.waiting_b) (eqb turn port_a) refl (rw (waits_true A h w) at k))
  where
    go : (b t : Bool) → eqb turn port_a ≡ t → ((cond b (cond t port_b port_a) port_a) ≡ port_a → ⊥) → (First A turn → ⊥) × First A (cond (eqb (cond b (cond t port_b port_a) port_a) none) turn (cond b (cond t port_b port_a) port_a))
    go true true e n = ((λ f. f (eqb-true turn port_a e)), (λ f. omega arith))
    go true false e n = absurd (n refl)
    go false t e n = absurd (n refl)
passed B h turn w k = rw (waits_true B h w) (go (is_waiting h.a h.waiting_a) (eqb turn port_a) refl (rw (waits_true B h w) at k))
  where
    go : (a t : Bool) → eqb turn port_a ≡ t → ((cond a (cond t port_b port_a) port_b) ≡ port_b → ⊥) → (First B turn → ⊥) × First B (cond (eqb (cond a (cond t port_b port_a) port_b) none) turn (cond a (cond t port_b port_a) port_b))
    go true true e n = absurd (n refl)
    go true false e n = (eqb-false turn port_a e, refl)
    go false t e n = absurd (n refl)

pub fair : Fair
unfolding picks
fair p turn [] w n = omega arith
fair p turn (h ∷ []) w n = omega arith
fair p turn (h ∷ g ∷ hs) w n =
    let after = passed p h turn w.0 n.0 in
    absurd ((passed p g (pick h turn).turn w.1.0 n.1.0).0 after.1)
