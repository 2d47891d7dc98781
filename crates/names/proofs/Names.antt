-- Laws of the names: what a text with the name of a command is, and where a name at the front of a text ends.
use Rattle.std.specs.Prelude.{Option, None, Some}
use Rattle.std.proofs.Common.{rules, tests}
use Prim.Native.Nat.{ℕ, zero, suc, ◌≤◌, ◌<◌}
use mathlib.Core.Path.{◌≡◌, refl, sym, ap, ap₂, ◌∙◌}
use Rattle.std.proofs.Common.{◌≢◌}
use mathlib.Core.Bool.{Bool, true, false, cond, and-eq-true_iff}
use mathlib.Core.List.{List, [], ◌∷◌, ◌++◌}
use native.Mathlib.Omega.{arith}
use borrow.Author.Tests.{ltb-true, ltb-false, eqb-true}
use lib.Arith.{lt_of_le-ne}
use lib.Dec.{eqb, ltb}
use lib.ListN.{length, get_or, take, drop, take-append-drop}
use lib.Seq.{length-take-le}
use Rattle.text.specs.Scan.{until, before, empty_or}
use Rattle.text.proofs.Laws.{Skips, skips_all}
use Rattle.text.proofs.Fields.{until_within, inside}
use Rattle.names.specs.declared.command.Command.{Command}
use Rattle.names.specs.declared.command.Command.TheVariants.{Lnt, Snt, Lnd, Snd, Lnl, Snl, Lnib, Lnob, Snob, Lnid, Lnod, Snod, Lnbb, Snbb, Lnbd, Snbd, Lna, Sna}
use Rattle.names.specs.Command.{same, name_of, commands, CommandsListed, among, command_of, name_end}

pub commands_listed : CommandsListed
commands_listed = refl

-- ---- the names, by computation

-- the name is read as the command, has no SP, and has three or four letters
pub record Name (c : Command) : Type 0 where
  pub named : command_of (name_of c) ≡ Some c
  pub solid : before 32 (name_of c) ≡ length (name_of c)
  pub least : ltb 2 (length (name_of c)) ≡ true
  pub most : ltb (length (name_of c)) 5 ≡ true

pub name : (c : Command) → Name c
unfolding command_of among same name_of until
name Lnt = record { named = refl; solid = refl; least = refl; most = refl }
name Snt = record { named = refl; solid = refl; least = refl; most = refl }
name Lnd = record { named = refl; solid = refl; least = refl; most = refl }
name Snd = record { named = refl; solid = refl; least = refl; most = refl }
name Lnl = record { named = refl; solid = refl; least = refl; most = refl }
name Snl = record { named = refl; solid = refl; least = refl; most = refl }
name Lnib = record { named = refl; solid = refl; least = refl; most = refl }
name Lnob = record { named = refl; solid = refl; least = refl; most = refl }
name Snob = record { named = refl; solid = refl; least = refl; most = refl }
name Lnid = record { named = refl; solid = refl; least = refl; most = refl }
name Lnod = record { named = refl; solid = refl; least = refl; most = refl }
name Snod = record { named = refl; solid = refl; least = refl; most = refl }
name Lnbb = record { named = refl; solid = refl; least = refl; most = refl }
name Snbb = record { named = refl; solid = refl; least = refl; most = refl }
name Lnbd = record { named = refl; solid = refl; least = refl; most = refl }
name Snbd = record { named = refl; solid = refl; least = refl; most = refl }
name Lna = record { named = refl; solid = refl; least = refl; most = refl }
name Sna = record { named = refl; solid = refl; least = refl; most = refl }

pub name_solid : (c : Command) → Skips (λ b. eqb b 32) (name_of c)
name_solid c = skips_all (λ b. eqb b 32) (name_of c) (name c).solid

-- ---- what is read as a command is its name

-- byte strings that compare as the same are equal
pub same_is : (s t : List ℕ) → same s t ≡ true → s ≡ t
unfolding same
same_is [] [] e = refl
same_is [] (y ∷ ys) e = let z : ◌≡◌ {A = ℕ} 0 1 = cc in absurd (omega arith)
same_is (x ∷ xs) [] e = let z : ◌≡◌ {A = ℕ} 0 1 = cc in absurd (omega arith)
same_is (x ∷ xs) (y ∷ ys) e =
    let p = (and-eq-true_iff (eqb x y) (same xs ys)).0 e in
    ap₂ ◌∷◌ (eqb-true x y p.0) (same_is xs ys p.1)

among_is : (cs : List Command) (s : List ℕ) {k : Command} → among cs s ≡ Some k → s ≡ name_of k
unfolding among
among_is [] s e = let z : ◌≡◌ {A = ℕ} 0 1 = cc in absurd (omega arith)
among_is (c ∷ cs) s {k} e = go (same s (name_of c)) refl e (among_is cs s)
  where
    go : (t : Bool) → same s (name_of c) ≡ t → cond t (Some c) (among cs s) ≡ Some k → (among cs s ≡ Some k → s ≡ name_of k) → s ≡ name_of k
    go true p e h = let z : c ≡ k = cc in same_is s (name_of c) p ∙ ap name_of z
    go false p e h = h e

command_is : {s : List ℕ} {k : Command} → command_of s ≡ Some k → s ≡ name_of k
unfolding command_of
command_is {s} e = among_is commands s e

-- ---- where it ends

-- a field ends at SP, or where the text ends, and not behind it
ends : (s : List ℕ) → empty_or 32 (drop (before 32 s) s) ≡ true
unfolding until
ends [] = refl
ends (b ∷ bs) = go (eqb b 32) refl (ends bs)
  where
    go : (t : Bool) → eqb b 32 ≡ t → empty_or 32 (drop (before 32 bs) bs) ≡ true → empty_or 32 (drop (cond t zero (suc (before 32 bs))) (b ∷ bs)) ≡ true
    go true e h = e
    go false e h = h

no_later : (s : List ℕ) (m : ℕ) → empty_or 32 (drop m s) ≡ true → before 32 s ≤ m
unfolding until
no_later [] m e = omega arith
no_later (b ∷ bs) zero e = rw e (omega arith)
no_later (b ∷ bs) (suc m) e = go (eqb b 32) (no_later bs m e)
  where
    go : (t : Bool) → before 32 bs ≤ m → cond t zero (suc (before 32 bs)) ≤ suc m
    go true h = omega arith
    go false h = omega arith

module _ (s : List ℕ) where
  within : before 32 s ≤ length s
  within = until_within (λ b. eqb b 32) s

  -- a name that stands before SP, or before the end, is the first field
  stops : (m : ℕ) (k : Command) → m ≤ length s → empty_or 32 (drop m s) ≡ true → take m s ≡ name_of k → before 32 s ≡ m
  stops m k l e q =
      let z : before 32 (drop m s) ≤ 0 = no_later (drop m s) 0 e in
      let n : length (name_of k) ≡ m = rw (← q) (length-take-le m s l) in
      let p : before 32 (name_of k ++ drop m s) ≡ before 32 s = rw (← q) (ap (before 32) (take-append-drop m s)) in
      omega (arith, name_solid k (drop m s))

  missed : (m : ℕ) → empty_or 32 (drop m s) ≡ false → m ≡ before 32 s → ⊥
  missed m e q = let z : ◌≡◌ {A = ℕ} 0 1 = (let f = rw q at e in let t = ends s in cc) in omega arith

  -- a first field of three or four bytes ends there
  found : (k : Command) → take (before 32 s) s ≡ name_of k → name_end s ≡ before 32 s
  found k q =
      let n : length (name_of k) ≡ before 32 s = rw (← q) (length-take-le (before 32 s) s within) in
      go (before 32 s) (ltb (length s) 3) (empty_or 32 (drop 3 s)) (empty_or 32 (drop 4 s)) refl refl refl refl (omega (arith, n, ltb-true 2 (length (name_of k)) (name k).least)) (omega (arith, n, ltb-true (length (name_of k)) 5 (name k).most))
    where
      go : (e : ℕ) (t u v : Bool) → before 32 s ≡ e → ltb (length s) 3 ≡ t → empty_or 32 (drop 3 s) ≡ u → empty_or 32 (drop 4 s) ≡ v → 2 < e → e < 5 → cond t 0 (cond u 3 (cond v 4 0)) ≡ e
      go e true u v p a b c h i = absurd (omega (arith, within, ltb-true (length s) 3 a))
      go e false true v p a b c h i = omega (arith, no_later s 3 b)
      go e false false true p a b c h i = let l : 3 < e = lt_of_le-ne (omega arith) (λ z. missed 3 b (z ∙ sym p)) in omega arith
      go e false false false p a b c h i =
          let l : 3 < e = lt_of_le-ne (omega arith) (λ z. missed 3 b (z ∙ sym p)) in
          let m : 4 < e = lt_of_le-ne (omega arith) (λ z. missed 4 c (z ∙ sym p)) in
          absurd (omega arith)

  -- an end that is not 0 is one
  end_within : name_end s ≤ length s
  end_within = go (ltb (length s) 3) (empty_or 32 (drop 3 s)) (empty_or 32 (drop 4 s)) refl refl
    where
      go : (t u v : Bool) → ltb (length s) 3 ≡ t → empty_or 32 (drop 3 s) ≡ u → cond t 0 (cond u 3 (cond v 4 0)) ≤ length s
      go true u v a b = omega arith
      go false true v a b = ltb-false (length s) 3 a
      go false false true a b = inside s 3 (ltb-false (length s) 3 a) (sym b)
      go false false false a b = omega arith

  end_stops : 0 < name_end s → empty_or 32 (drop (name_end s) s) ≡ true
  end_stops = go (ltb (length s) 3) (empty_or 32 (drop 3 s)) (empty_or 32 (drop 4 s)) refl refl
    where
      go : (t u v : Bool) → empty_or 32 (drop 3 s) ≡ u → empty_or 32 (drop 4 s) ≡ v → 0 < cond t 0 (cond u 3 (cond v 4 0)) → empty_or 32 (drop (cond t 0 (cond u 3 (cond v 4 0))) s) ≡ true
      go true u v b c h = absurd (omega arith)
      go false true v b c h = b
      go false false true b c h = c
      go false false false b c h = absurd (omega arith)

  -- what is a command ends at the first SP, and what is none is none
  pub name_ends : (k : Command) → command_of (take (name_end s) s) ≡ Some k → name_end s ≡ before 32 s
  name_ends k e =
      let q = command_is e in
      let n : length (name_of k) ≡ name_end s = rw (← q) (length-take-le (name_end s) s end_within) in
      sym (stops (name_end s) k end_within (end_stops (omega (arith, n, ltb-true 2 (length (name_of k)) (name k).least))) q)

  pub name_read : command_of (take (name_end s) s) ≡ command_of (take (before 32 s) s)
  name_read = go (command_of (take (before 32 s) s)) (command_of (take (name_end s) s)) refl refl
    where
      go : (f n : Option Command) → command_of (take (before 32 s) s) ≡ f → command_of (take (name_end s) s) ≡ n → n ≡ f
      go (Some k) n p q = sym q ∙ rw (found k (command_is p)) p
      go None (Some k) p q = sym q ∙ rw (name_ends k q) p
      go None None p q = refl

-- ---- a name by its letters, for the tests that a match on names makes

pub short : (s : List ℕ) → length s < 3 → command_of s ≡ None
unfolding command_of among same name_of
short [] h = refl
short (a ∷ []) h = search (rules, tests)
short (a ∷ (b ∷ [])) h = search (rules, tests)
short (a ∷ (b ∷ (c ∷ s))) h = absurd (omega arith)

pub long : (s : List ℕ) → 5 ≤ length s → command_of s ≡ None
unfolding command_of among same name_of
long [] h = absurd (omega arith)
long (a ∷ []) h = absurd (omega arith)
long (a ∷ (b ∷ [])) h = absurd (omega arith)
long (a ∷ (b ∷ (c ∷ []))) h = absurd (omega arith)
long (a ∷ (b ∷ (c ∷ (d ∷ [])))) h = absurd (omega arith)
long (a ∷ (b ∷ (c ∷ (d ∷ (e ∷ s))))) h = search (rules, tests)

pub three : (s : List ℕ) → 3 ≤ length s → length s < 4 → s ≡ get_or s 0 0 ∷ (get_or s 1 0 ∷ (get_or s 2 0 ∷ []))
three [] h k = absurd (omega arith)
three (a ∷ []) h k = absurd (omega arith)
three (a ∷ (b ∷ [])) h k = absurd (omega arith)
three (a ∷ (b ∷ (c ∷ []))) h k = refl
three (a ∷ (b ∷ (c ∷ (d ∷ s)))) h k = absurd (omega arith)

pub four : (s : List ℕ) → 4 ≤ length s → length s < 5 → s ≡ get_or s 0 0 ∷ (get_or s 1 0 ∷ (get_or s 2 0 ∷ (get_or s 3 0 ∷ [])))
four [] h k = absurd (omega arith)
four (a ∷ []) h k = absurd (omega arith)
four (a ∷ (b ∷ [])) h k = absurd (omega arith)
four (a ∷ (b ∷ (c ∷ []))) h k = absurd (omega arith)
four (a ∷ (b ∷ (c ∷ (d ∷ [])))) h k = refl
four (a ∷ (b ∷ (c ∷ (d ∷ (e ∷ s))))) h k = absurd (omega arith)

module _ (s : List ℕ) (h : 4 ≤ length s) (k : length s < 5) (o : get_or s 2 0 ≢ 79) (b : get_or s 2 0 ≢ 66) where
  -- the third letter is none of I, O and B
  pub no_load : get_or s 2 0 ≢ 73 → command_of s ≡ None
  unfolding command_of among same name_of
  no_load i = rw (four s h k) (search (rules, tests))

  -- the first letter is S, and the third is neither O nor B
  pub no_store : get_or s 0 0 ≡ 83 → command_of s ≡ None
  unfolding command_of among same name_of
  no_store e = rw (four s h k, e) (search (rules, tests))

-- for `command_of`
pub ruleset letters = (three, four, short, long, no_load, no_store)
