-- What each pick comes to.
use Prim.Native.Nat.{ℕ, ◌≤◌, ◌<◌}
use mathlib.Core.Path.{◌≡◌, refl, ap, subst}
use mathlib.Core.Bool.{Bool, true, false, cond}
use mathlib.Core.List.{List}
use native.Mathlib.Omega.{arith}
use borrow.Author.Tests.{leb-true, eqb-false, le-leb, eq-eqb, ne_eqb}
use lib.Dec.{eqb, leb}
use lib.ListN.{length}
use Rattle.chooser.specs.Turn.{none, port_a, port_b, Buffers, is_waiting, port_picked, slice_at, pick_of, pick}
use Rattle.chooser.specs.declared.choose.Port.{Port}
use Rattle.chooser.specs.declared.choose.Port.TheVariants.{A, B}
use Rattle.chooser.specs.Fair.{buffer, waiting, Waits, Idle, NotIdle, HandsBack, FirstA}

-- ---- the test for a waiting slice

pub waits_true : (p : Port) (h : Buffers) → Waits p h → is_waiting (buffer p h) (waiting p h) ≡ true
unfolding is_waiting
waits_true p h w = rw (ne_eqb (waiting p h) 0 (λ e. omega (arith, w.0))) (le-leb _ _ w.1)

pub true_waits : (s : List ℕ) (n : ℕ) → is_waiting s n ≡ true → (0 < n) × (n ≤ length s)
unfolding is_waiting
true_waits s n = go (eqb n 0) refl
  where
    go : (t : Bool) → eqb n 0 ≡ t → cond t false (leb n (length s)) ≡ true → (0 < n) × (n ≤ length s)
    go true e f = absurd (subst (λ (u : Bool). cond u ⊥ Unit) f tt)
    go false e f = let k = eqb-false n 0 e in (omega (arith, k), leb-true n (length s) f)

waits_false : (p : Port) (h : Buffers) → (Waits p h → ⊥) → is_waiting (buffer p h) (waiting p h) ≡ false
waits_false p h k = go (is_waiting (buffer p h) (waiting p h)) refl
  where
    go : (t : Bool) → is_waiting (buffer p h) (waiting p h) ≡ t → t ≡ false
    go true e = absurd (k (true_waits (buffer p h) (waiting p h) e))
    go false e = refl

-- ---- in a new box

pub first_a : FirstA
unfolding pick port_picked
first_a h w = rw (waits_true A h w) (go (is_waiting h.b h.waiting_b))
  where
    go : (b : Bool) → ◌≡◌ {A = ℕ} (cond b port_a port_a) port_a
    go true = refl
    go false = refl

-- ---- the port that is picked

pub picked_a : (a b : Bool) (turn : ℕ) → port_picked a b turn ≡ port_a → a ≡ true
unfolding port_picked
picked_a true b turn e = refl
picked_a false true turn e = absurd (omega arith)
picked_a false false turn e = absurd (omega arith)

pub picked_b : (a b : Bool) (turn : ℕ) → port_picked a b turn ≡ port_b → b ≡ true
unfolding port_picked
picked_b a true turn e = refl
picked_b true false turn e = absurd (omega arith)
picked_b false false turn e = absurd (omega arith)

-- ---- the picks

pub none_idle : (h : Buffers) (turn : ℕ) → (pick h turn).port ≡ none → (pick h turn).number ≡ 17
unfolding pick
none_idle h turn e = rw (eq-eqb _ none e)

pub idle : Idle
unfolding pick port_picked slice_at
idle h turn k = rw (waits_false A h (k A), waits_false B h (k B)) refl

pub not_idle : NotIdle
unfolding pick port_picked
not_idle h turn A w = rw (waits_true A h w) (go (is_waiting h.b h.waiting_b) (eqb turn port_a))
  where
    go : (b t : Bool) → ◌≡◌ {A = ℕ} (cond (eqb (cond b (cond t port_b port_a) port_a) none) 17 0) 0
    go true true = refl
    go true false = refl
    go false t = refl
not_idle h turn B w = rw (waits_true B h w) (go (is_waiting h.a h.waiting_a) (eqb turn port_a))
  where
    go : (a t : Bool) → ◌≡◌ {A = ℕ} (cond (eqb (cond a (cond t port_b port_a) port_b) none) 17 0) 0
    go true true = refl
    go true false = refl
    go false t = refl

pub hands_back : HandsBack
unfolding pick slice_at
hands_back h turn A e =
    record {
      waits = true_waits h.a h.waiting_a (picked_a _ _ turn e);
      pick_is = ap (pick_of h turn) e;
    }
hands_back h turn B e =
    record {
      waits = true_waits h.b h.waiting_b (picked_b _ _ turn e);
      pick_is = ap (pick_of h turn) e;
    }
