-- The slices handed out, call by call, are those of the whole line.
use Prim.Native.Nat.{ℕ}
use mathlib.Core.Path.{◌≡◌, refl, sym, ap, ap₂, ◌∙◌}
use mathlib.Core.Bool.{Bool, true, false, cond}
use mathlib.Core.List.{List, [], ◌∷◌, ◌++◌}
use lib.Dec.{eqb, ltb}
use lib.ListN.{length, take}
use Rattle.frame.proofs.Writing.{front_is}
use Rattle.receiver.specs.Rule.{held_from, slices_from}
use Rattle.receiver.specs.Receive.{held_in, standing, taken, Outcome, took, no_room, received}
use Rattle.receiver.specs.Line.{Made, Promised, History, handed, line, WholeLine, CutsAgree}
use Rattle.receiver.proofs.Cut.{slices_cut, one, takes}

-- ---- one call

-- what a call comes to, refused or not, is what the rule gives on the bytes that it took
record Gives (o : Outcome) (h arrived : List ℕ) : Type 0 where
  slice_is : one o.all.slice ≡ slices_from h (take o.all.taken arrived)
  held_is : o.all.held ≡ held_from h (take o.all.taken arrived)

gives : (m : List ℕ) (n : ℕ) (arrived : List ℕ) (room : ℕ) → Gives (received m n arrived room) (held_in m n) arrived
unfolding received slices_from held_from
gives m n arrived room = go (ltb room 255)
  where
    go : (t : Bool) → Gives (cond t (no_room m n) (took (taken m (held_in m n) arrived))) (held_in m n) arrived
    go true = record { slice_is = refl; held_is = refl }
    go false =
        let k = takes m (held_in m n) arrived in
        record { slice_is = k.slice_is; held_is = k.held_is }

module _ (m : List ℕ) (n : ℕ) (c : Made) (p : Promised m n c) where
  slice_handed : cond (eqb c.returned.length 0) [] (take c.returned.length c.later ∷ []) ≡ slices_from (held_in m n) (take c.returned.taken c.arrived)
  slice_handed =
      let o : Outcome = received m n c.arrived (length c.before) in
      rw (p.length_is, p.area_is, front_is c.before o.all.slice p.fits, p.taken_is) (gives m n c.arrived (length c.before)).slice_is

  held_then : held_in c.memory c.count ≡ held_from (held_in m n) (take c.returned.taken c.arrived)
  held_then = p.held_is ∙ rw p.taken_is (gives m n c.arrived (length c.before)).held_is

-- ---- all of them

history_handed : (m : List ℕ) (n : ℕ) (cs : List Made) → History m n cs → handed cs ≡ slices_from (held_in m n) (line cs)
unfolding History handed line slices_from
history_handed m n [] h = refl
history_handed m n (c ∷ cs) h =
    let a : List ℕ = take c.returned.taken c.arrived in
    ap₂ ◌++◌ (slice_handed m n c h.0) (history_handed c.memory c.count cs h.1 ∙ ap (λ (g : List ℕ). slices_from g (line cs)) (held_then m n c h.0))
    ∙ sym (slices_cut (held_in m n) a (line cs))

pub whole_line : WholeLine
unfolding standing
whole_line m cs h = history_handed m 0 cs h

pub cuts_agree : CutsAgree
cuts_agree m m' cs ds h k e = whole_line m cs h ∙ ap (slices_from []) e ∙ sym (whole_line m' ds k)
