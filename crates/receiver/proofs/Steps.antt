-- Laws of one byte, and of a call that takes byte after byte.
use Prim.Native.Nat.{ℕ, ◌+◌, ◌-◌, ◌≤◌, ◌<◌}
use mathlib.Core.Path.{◌≡◌, refl, sym, ap, ap₂, ◌∙◌}
use mathlib.Core.Bool.{true, false}
use mathlib.Core.List.{List, [], ◌∷◌, ◌++◌}
use native.Mathlib.Omega.{arith}
use native.Mathlib.Numerals.{add-one}
use borrow.Author.Tests.{eq-eqb, ne_eqb, lt-ltb, le-ltb}
use lib.Dec.{eqb}
use lib.ListN.{length, get_or, take, drop, set}
use lib.Seq.{length-take-le, take-suc-set, get_or-take, sets}
use Rattle.text.specs.Put.{PutAt}
use Rattle.text.proofs.Laws.{here, over}
use Rattle.receiver.specs.declared.receive.Step.TheVariants.{Finished, Held}
use Rattle.receiver.specs.Rule.{dropped, begun, added, finished, ended, effect, ends}
use Rattle.receiver.specs.Receive.{standing, held_in, Taken, one_more, taken, took, no_room, received, Received, Stepped}

-- ---- what a byte is

module _ (held : List ℕ) (b : ℕ) where
  pub is_finished : ended held ≡ true → effect held b ≡ finished
  unfolding effect
  is_finished e = rw e

  module _ (e : ended held ≡ false) where
    pub is_begun : b ≡ 2 → effect held b ≡ begun
    unfolding effect
    is_begun p = rw (e, eq-eqb b 2 p)

    module _ (p : b ≡ 2 → ⊥) where
      pub is_noise : length held ≡ 0 → effect held b ≡ dropped
      unfolding effect
      is_noise q = rw (e, ne_eqb b 2 p, eq-eqb (length held) 0 q)

      pub is_added : (length held ≡ 0 → ⊥) → length held < 254 → effect held b ≡ added
      unfolding effect
      is_added q l = rw (e, ne_eqb b 2 p, ne_eqb (length held) 0 q, lt-ltb (length held) 254 l)

      pub is_dropped : (length held ≡ 0 → ⊥) → 254 ≤ length held → effect held b ≡ dropped
      unfolding effect
      is_dropped q l = rw (e, ne_eqb b 2 p, ne_eqb (length held) 0 q, le-ltb (length held) 254 l)

-- ---- one byte, where the first n bytes of the memory are held

module _ (m : List ℕ) (n : ℕ) (h : n < 255) (k : length m ≡ 255) where
  pub long : length (take n m) ≡ n
  long = length-take-le n m (omega arith)

  pub ended_none : n ≡ 0 → ended (take n m) ≡ false
  unfolding ended
  ended_none e = rw e

  pub ended_some : (n ≡ 0 → ⊥) → ended (take n m) ≡ eqb (get_or m (n - 1) 0) 3
  unfolding ended
  ended_some e = rw (long, get_or-take n m (n - 1) 0 (omega arith))

  pub grown : (b : ℕ) → take (n + 1) (set m n b) ≡ take n m ++ (b ∷ [])
  grown b = rw (add-one, take-suc-set m n b (omega arith))

-- STX stands alone at the front
pub alone : (m : List ℕ) (b : ℕ) → 0 < length m → take 1 (set m 0 b) ≡ b ∷ []
alone m b h = take-suc-set m 0 b h

-- for `at_end`
pub ruleset ends_with = (ended_none, ended_some)

-- for `take_byte`
pub ruleset steps = (is_finished, is_begun, is_noise, is_added, is_dropped, long, grown, alone)

-- ---- a call: t is what it takes in all, of which i bytes were taken and u is left

pub record Going (t : Taken) (i : ℕ) (u : Taken) : Type 0 where
  pub taken : t.taken ≡ i + u.taken
  pub slice : t.slice ≡ u.slice
  pub held : t.held ≡ u.held
  pub memory : t.memory ≡ u.memory

pub at_start : (t : Taken) → Going t 0 t
at_start t = record { taken = omega arith; slice = refl; held = refl; memory = refl }

-- what is left may be said otherwise
same : {t u v : Taken} {i : ℕ} → Going t i u → u ≡ v → Going t i v
same {i = i} g e = record {
  taken = g.taken ∙ ap (λ (x : Taken). i + x.taken) e;
  slice = g.slice ∙ ap (λ (x : Taken). x.slice) e;
  held = g.held ∙ ap (λ (x : Taken). x.held) e;
  memory = g.memory ∙ ap (λ (x : Taken). x.memory) e;
}

module _ {t : Taken} (m s : List ℕ) (n i : ℕ) (g : Going t i (taken m (take n m) (drop i s))) where
  module _ (h : i < length s) (c : ℕ) {m' : List ℕ} where
    pub go_on : Stepped m n (get_or s i 0) (Held c) m' → Going t (i + 1) (taken m' (take c m') (drop (i + 1) s))
    unfolding taken
    go_on x =
        let p : ends (effect (take n m) (get_or s i 0)) ≡ false = sym x.done_is in
        let u : taken m (take n m) (drop i s) ≡ one_more (taken m' (take c m') (drop (i + 1) s)) =
        rw (here s i h, p) (ap₂ (λ (a l : List ℕ). one_more (taken a l (drop (i + 1) s))) (sym x.memory_is) (sym x.bytes_are)) in
        let v = same g u in
        record { taken = omega (arith, v.taken); slice = v.slice; held = v.held; memory = v.memory }

    pub stop : Stepped m n (get_or s i 0) (Finished c) m' → Going t i (record { taken = 1; slice = take c m'; held = []; memory = m' })
    unfolding taken
    stop x =
        let p : ends (effect (take n m) (get_or s i 0)) ≡ true = sym x.done_is in
        same g (rw (here s i h, p) (ap₂ (λ (a l : List ℕ). record { taken = 1; slice = l; held = []; memory = a }) (sym x.memory_is) (sym x.bytes_are)))

  pub run_out : length s ≤ i → Going t i (record { taken = 0; slice = []; held = take n m; memory = m })
  unfolding taken
  run_out h = same g (rw (over s i h))

-- ---- what the call then returns and leaves

pub standing_is : (n : ℕ) → n < 255 → standing n ≡ n
unfolding standing
standing_is n h = rw (lt-ltb n 255 h)

module _ {t : Taken} {m area : List ℕ} {i : ℕ} (l : 255 ≤ length area) where
  -- a slice was finished, of c bytes
  pub with_slice : {c r : ℕ} {area' : List ℕ} → length m ≡ 255 → c ≤ 255 → Going t i (record { taken = 1; slice = take c m; held = []; memory = m }) → PutAt area 0 (take c m) r area' → Received (took t) area (record { number = 0; taken = i + 1; length = c }) m 0 area'
  unfolding standing
  with_slice {c} k h g p =
      let n : length t.slice ≡ c = ap length g.slice ∙ length-take-le c m (omega arith) in
      record {
        number_is = refl;
        taken_is = sym g.taken;
        length_is = sym n;
        fits = omega arith;
        area_is = p.area ∙ ap (sets area 0) (sym g.slice);
        count_is = ap length (sym g.held);
        memory_is = sym g.memory;
        held_is = sym g.held;
      }

  -- none was, and n bytes are held
  pub without_slice : {n : ℕ} → length m ≡ 255 → n < 255 → Going t i (record { taken = 0; slice = []; held = take n m; memory = m }) → Received (took t) area (record { number = 0; taken = i; length = 0 }) m n area
  without_slice {n} k h g =
      record {
        number_is = refl;
        taken_is = omega (arith, g.taken);
        length_is = ap length (sym g.slice);
        fits = omega (arith, ap length g.slice);
        area_is = ap (sets area 0) (sym g.slice);
        count_is = sym (ap length g.held ∙ length-take-le n m (omega arith));
        memory_is = sym g.memory;
        held_is = ap (λ (j : ℕ). take j m) (standing_is n h) ∙ sym g.held;
      }

-- an area that is too small, and one that is not
module _ (m : List ℕ) (n : ℕ) (arrived area : List ℕ) where
  pub without_room : length area < 255 → received m n arrived (length area) ≡ no_room m n
  unfolding received
  without_room h = rw (lt-ltb (length area) 255 h)

  pub with_room : 255 ≤ length area → received m n arrived (length area) ≡ took (taken m (held_in m n) arrived)
  unfolding received
  with_room h = rw (le-ltb (length area) 255 h)

-- for `receive`
pub ruleset rooms = (without_room, with_room)
