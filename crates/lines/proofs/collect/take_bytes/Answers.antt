use Prim.Native.Nat.{ℕ, ◌+◌, ◌-◌, ◌≤◌, ◌<◌}
use mathlib.Core.Path.{◌≡◌, sym, ap, ◌∙◌}
use mathlib.Core.List.{List, ◌++◌}
use native.Mathlib.Omega.{arith}
use lib.ListN.{length, take, length-append}
use lib.Seq.{length-take-le, take_all, take-append-add}
use Rattle.text.specs.Put.{PutAt}
use Rattle.text.proofs.Laws.{put_at}
use Rattle.lines.proofs.Laws.{put_behind}
use Rattle.lines.proofs.collect.take_bytes.Goals as goal

module _ (held s : List ℕ) (n : ℕ) (h : (length held ≡ 513) × (n ≤ 513)) where
  count : length (take n held) ≡ n
  count = length-take-le n held (omega (arith, h.0, h.1))

  -- what has no room is left out
  cut : {held' : List ℕ} {r : ℕ} → 513 - n < length s → PutAt held n (take (513 - n) s) r held' → (take r held' ≡ take 513 (take n held ++ s)) × (r ≤ 513)
  cut {held'} {r} l p =
      let k : length (take (513 - n) s) ≡ 513 - n = length-take-le (513 - n) s (omega arith) in
      let e : length (take n held) + (513 - n) ≡ 513 = omega (arith, count, h.1) in
      let b : r ≤ 513 = omega (arith, p.next, h.1) in
      (put_behind p (omega (arith, h.0)) ∙ sym (take-append-add (take n held) s (513 - n)) ∙ ap (λ (m : ℕ). take m (take n held ++ s)) e, b)

  whole : {held' : List ℕ} {r : ℕ} → length s ≤ 513 - n → PutAt held n s r held' → (take r held' ≡ take 513 (take n held ++ s)) × (r ≤ 513)
  whole {held'} {r} l p =
      let b : r ≤ 513 = omega (arith, p.next, h.1) in
      (put_behind p (omega (arith, h.0)) ∙ sym (take_all 513 (take n held ++ s) (omega (arith, length-append (take n held) s, count, h.1))), b)

pub returns-then-room-s : goal.returns-then-room-s
returns-then-room-s c =
    cut c.args.held.now c.args.s.now c.args.n c.requires c.if-room-s.true (put_at c.put_bytes.ensures)

pub returns : goal.returns
returns c =
    whole c.args.held.now c.args.s.now c.args.n c.requires c.if-room-s.false (put_at c.put_bytes-2.ensures)
