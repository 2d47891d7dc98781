-- What is held of a line reads as the line, and what is written reads back as itself.
use Prim.Native.Nat.{ℕ, ◌+◌, ◌*◌, ◌/◌, ◌%◌, ◌≤◌, ◌<◌}
use mathlib.Core.Path.{◌≡◌, refl, sym, ◌∙◌}
use mathlib.Core.Bool.{Bool, true, false, true≢false}
use mathlib.Core.List.{List, [], ◌∷◌}
use native.Mathlib.Omega.{arith}
use borrow.Author.Tests.{lt-ltb, ltb-true, ltb-false, le-leb, lt-leb, leb-true, leb-false, eq-eqb}
use lib.ListN.{length, take}
use lib.Seq.{length-take-le, take_all}
use lib.Dec.{ltb, leb}
use Rattle.lines.specs.Lines.{value, all_capitals, is_call, slice_of, capital, hex_text}
use Rattle.lines.specs.Back.{HeldReadsSame, Bytes, HexReadsBack}
use Rattle.lines.proofs.Laws.{hex_length}

-- ---- a line that is held

-- a line over 512 digits
long_is_none : (s : List ℕ) → 512 < length s → is_call s ≡ false
unfolding is_call
long_is_none s h = rw (lt-leb _ _ h)

pub held_reads_same : HeldReadsSame
held_reads_same s = go (leb (length s) 513) refl
  where
    go : (t : Bool) → leb (length s) 513 ≡ t → (is_call (take 513 s) ≡ is_call s) × (is_call s ≡ true → slice_of (take 513 s) ≡ slice_of s)
    go true q = rw (take_all 513 s (leb-true _ _ q)) (refl, λ e. refl)
    go false q =
        let g : 513 < length s = leb-false _ _ q in
        let k : length (take 513 s) ≡ 513 = length-take-le 513 s (omega arith) in
        let n : is_call s ≡ false = long_is_none s (omega arith) in
        (long_is_none (take 513 s) (omega arith) ∙ sym n, λ e. absurd (true≢false (sym e ∙ n)))

-- ---- bytes that are written

value_capital : (d : ℕ) → d < 16 → value (capital d) ≡ d
unfolding value capital
value_capital d h = go (ltb d 10) refl
  where
    go : (t : Bool) → ltb d 10 ≡ t → value (capital d) ≡ d
    go true q =
        let l : d < 10 = ltb-true _ _ q in
        rw q (simp (le-leb 48 (d + 48) (omega arith), le-leb (d + 48) 57 (omega arith)) (omega arith))
    go false q =
        let l : 10 ≤ d = ltb-false _ _ q in
        rw q (simp (le-leb 48 (d + 55) (omega arith), lt-leb (d + 55) 57 (omega arith), le-leb 65 (d + 55) (omega arith), le-leb (d + 55) 70 (omega arith)) (omega arith))

-- the two digits of a byte
high : (b : ℕ) → b < 256 → value (capital (b / 16)) ≡ b / 16
high b h = value_capital (b / 16) (omega arith)

low : (b : ℕ) → value (capital (b % 16)) ≡ b % 16
low b = value_capital (b % 16) (omega arith)

hex_capitals : (bs : List ℕ) → Bytes bs → all_capitals (hex_text bs) ≡ true
unfolding all_capitals hex_text
hex_capitals [] h = refl
hex_capitals (b ∷ bs) h =
    rw (high b h.0, low b, lt-ltb (b / 16) 16 (omega arith), lt-ltb (b % 16) 16 (omega arith)) (hex_capitals bs h.1)

hex_slice : (bs : List ℕ) → Bytes bs → slice_of (hex_text bs) ≡ bs
unfolding slice_of hex_text
hex_slice [] h = refl
hex_slice (b ∷ bs) h =
    let e : b / 16 * 16 + b % 16 ≡ b = omega arith in
    rw (high b h.0, low b, e, hex_slice bs h.1)

pub hex_reads_back : HexReadsBack
unfolding is_call
hex_reads_back bs h k =
    let n = hex_length bs in
    (rw (le-leb (length (hex_text bs)) 512 (omega arith), eq-eqb (length (hex_text bs) % 2) 0 (omega arith)) (hex_capitals bs h), hex_slice bs h)
