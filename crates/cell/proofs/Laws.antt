-- Laws of a block that is taken in parts: a part more, output that was written, and that each part has a byte.
use Prim.Native.Nat.{ℕ, ◌+◌, ◌-◌, ◌≤◌, ◌<◌}
use mathlib.Core.Path.{◌≡◌, refl, ap, ◌∙◌}
use mathlib.Core.Logic.{◌⊎◌, inl, inr}
use mathlib.Core.Bool.{Bool, true, false}
use mathlib.Core.List.{List, [], ◌∷◌, ◌++◌, append-nil, append_assoc}
use Rattle.std.proofs.lemmas.List.{take-append-drop}
use Rattle.text.proofs.Laws.{rest}
use native.Mathlib.Omega.{arith}
use borrow.Author.Tests.{ltb-true, ltb-false}
use lib.ListN.{length, take, drop}
use lib.Seq.{length-take-le}
use lib.Dec.{ltb}
use Rattle.tables.specs.Tables.{Tables}
use Rattle.model.specs.Box.{Box}
use Rattle.stream.specs.declared.buffers.Buffers.{Buffers}
use Rattle.stream.specs.Cell.{Cell, taken_all, cell_of, Took, preceded}
use Rattle.stream.proofs.Laws.{taken_append, take_short}
use Rattle.stream.proofs.WholeInput.{taken_all_preceded}
use Rattle.cell.specs.Block.{BlockTaken}

-- what follows a part of s
pub part_more : {a c d : Cell} {bs : List ℕ} (s : List ℕ) {n : ℕ} → BlockTaken a bs (taken_all c s) → Took c s n d → BlockTaken a bs (taken_all d (take (length s - n) (drop n s)))
part_more {c = c} s {n} b t =
    record { before = b.before; state_is = rw (rest n s, t.state_is, ← taken_append c (take n s) (drop n s), take-append-drop n s) b.state_is }

-- the output waits, or all of it was written
pub room_made : {a : Cell} {bs : List ℕ} (line : List ℕ) (b : Box) (out s : List ℕ) (w : ℕ) {r : ℕ} → (r ≡ w) ⊎ (r ≡ 0) → BlockTaken a bs (taken_all (record { box = b; line = line; output = take w out }) s) → BlockTaken a bs (taken_all (record { box = b; line = line; output = take r out }) s)
room_made line b out s w (inl e) k = record { before = k.before; state_is = rw e k.state_is }
room_made line b out s w (inr e) k =
    let c : Cell = record { box = b; line = line; output = [] } in
    let q = taken_all_preceded (take w out) c s in
    let p = rw (append-nil (take w out)) at q in
    record { before = k.before ++ take w out; state_is = rw (e, append_assoc k.before (take w out) (taken_all c s).output) (k.state_is ∙ ap (λ (d : Cell). preceded k.before d) p) }

-- no byte of s is left
pub block_end : {a c : Cell} {bs : List ℕ} (s : List ℕ) → length s ≡ 0 → BlockTaken a bs (taken_all c s) → BlockTaken a bs c
unfolding taken_all
block_end [] e b = b
block_end (x ∷ s) e b = absurd (omega arith)

-- where there is room and input, a byte is taken
pub part_some : {st st' input : List ℕ} {t t' : Tables} {n : ℕ} (b b' : Buffers) → b.waiting + 132 ≤ 65536 → 0 < length input → length b'.output ≡ 65536 → Took (cell_of st t b) input n (cell_of st' t' b') → (n ≡ length input) ⊎ (65404 < b'.waiting) → 0 < n
unfolding taken_all
part_some {input = input} {n = n} b b' room more l k stops = go (ltb 0 n) refl stops
  where
    go : (v : Bool) → ltb 0 n ≡ v → (n ≡ length input) ⊎ (65404 < b'.waiting) → 0 < n
    go true e stops = ltb-true _ _ e
    go false e (inl f) = omega arith
    go false e (inr g) =
        let z : n ≡ 0 = omega (arith, ltb-false 0 n e) in
        let f = ap (λ (c : Cell). length c.output) (rw z at k.state_is) in
        absurd (omega (arith, f, length-take-le b'.waiting b'.output (omega (arith, l, b'.waiting_fits)), take_short b.waiting b.output))
