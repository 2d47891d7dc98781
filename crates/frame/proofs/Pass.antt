-- Laws of one pass over a text: its LRC, and whether some byte passes a test.
use Prim.Native.Nat.{ℕ, zero, suc, ◌+◌, ◌≤◌, ◌<◌}
use mathlib.Core.Path.{◌≡◌, refl}
use mathlib.Core.Bool.{Bool, true, false, cond, ◌||◌}
use mathlib.Core.List.{List, [], ◌∷◌}
use native.Mathlib.Omega.{arith}
use borrow.Author.Tests.{lt-ltb}
use lib.Bits.{bit_xor}
use lib.Dec.{ltb, leb-suc-suc}
use lib.ListN.{length, get_or, drop}
use Rattle.text.specs.Scan.{until}
use Rattle.text.proofs.Laws.{here, over}
use Rattle.text.specs.Put.{xor_onto}

-- ---- the LRC

pub xor_step :
    (s : List ℕ) (i sum : ℕ) →
    i < length s →
    xor_onto sum (drop i s) ≡ xor_onto (bit_xor sum (get_or s i 0)) (drop (i + 1) s)
unfolding xor_onto
xor_step s i sum h = rw (here s i h)

pub xor_done : (s : List ℕ) (i sum : ℕ) → length s ≤ i → xor_onto sum (drop i s) ≡ sum
unfolding xor_onto
xor_done s i sum h = rw (over s i h)

-- ---- a search that finds something

-- some byte passes the test
abbrev pub some : (ℕ → Bool) → List ℕ → Bool
some test s = ltb (until test s) (length s)

some_cons : (test : ℕ → Bool) (b : ℕ) (s : List ℕ) → some test (b ∷ s) ≡ (test b || some test s)
unfolding until
some_cons test b s = go (test b)
  where
    go : (t : Bool) → ltb (cond t zero (suc (until test s))) (suc (length s)) ≡ (t || ltb (until test s) (length s))
    go true = lt-ltb 0 (suc (length s)) (omega arith)
    go false = leb-suc-suc (suc (until test s)) (length s)

pub some_step :
    (test : ℕ → Bool) (s : List ℕ) (i : ℕ) →
    i < length s →
    some test (drop i s) ≡ (test (get_or s i 0) || some test (drop (i + 1) s))
some_step test s i h = rw (here s i h) (some_cons test (get_or s i 0) (drop (i + 1) s))

pub some_done : (test : ℕ → Bool) (s : List ℕ) (i : ℕ) → length s ≤ i → some test (drop i s) ≡ false
unfolding until
some_done test s i h = rw (over s i h)

-- a flag that takes in two tests of a byte
pub flag_step : (flag a b more : Bool) → (flag || ((a || b) || more)) ≡ (((flag || a) || b) || more)
flag_step true a b more = refl
flag_step false a b more = refl

pub flag_done : (flag : Bool) → (flag || false) ≡ flag
flag_done true = refl
flag_done false = refl

-- for `lrc_and_stray`
pub ruleset passes = (xor_step, xor_done, some_step, some_done, flag_step, flag_done)
