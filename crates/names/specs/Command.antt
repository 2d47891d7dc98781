-- The names of the commands (document 01, "Commands"; for LNA and SNA document 02, E3).
use Rattle.std.specs.Prelude.{ℕ, ◌≡◌, Bool, true, false, cond, ◌&&◌, List, [], ◌∷◌, eqb, ltb, length, drop, Option, None, Some}
use Rattle.text.specs.Scan.{empty_or}
use Rattle.names.specs.declared.command.TheConstants.{COMMANDS}
use Rattle.names.specs.declared.command.Command.{Command}
use Rattle.names.specs.declared.command.Command.TheVariants.{Lnt, Snt, Lnd, Snd, Lnl, Snl, Lnib, Lnob, Snob, Lnid, Lnod, Snod, Lnbb, Snbb, Lnbd, Snbd, Lna, Sna}

-- two byte strings are the same
unfoldable pub same : List ℕ → List ℕ → Bool
same [] [] = true
same [] (y ∷ ys) = false
same (x ∷ xs) [] = false
same (x ∷ xs) (y ∷ ys) = eqb x y && same xs ys

-- the names, in capitals
unfoldable pub name_of : Command → List ℕ
name_of Lnt = 76 ∷ 78 ∷ 84 ∷ []
name_of Snt = 83 ∷ 78 ∷ 84 ∷ []
name_of Lnd = 76 ∷ 78 ∷ 68 ∷ []
name_of Snd = 83 ∷ 78 ∷ 68 ∷ []
name_of Lnl = 76 ∷ 78 ∷ 76 ∷ []
name_of Snl = 83 ∷ 78 ∷ 76 ∷ []
name_of Lnib = 76 ∷ 78 ∷ 73 ∷ 66 ∷ []
name_of Lnob = 76 ∷ 78 ∷ 79 ∷ 66 ∷ []
name_of Snob = 83 ∷ 78 ∷ 79 ∷ 66 ∷ []
name_of Lnid = 76 ∷ 78 ∷ 73 ∷ 68 ∷ []
name_of Lnod = 76 ∷ 78 ∷ 79 ∷ 68 ∷ []
name_of Snod = 83 ∷ 78 ∷ 79 ∷ 68 ∷ []
name_of Lnbb = 76 ∷ 78 ∷ 66 ∷ 66 ∷ []
name_of Snbb = 83 ∷ 78 ∷ 66 ∷ 66 ∷ []
name_of Lnbd = 76 ∷ 78 ∷ 66 ∷ 68 ∷ []
name_of Snbd = 83 ∷ 78 ∷ 66 ∷ 68 ∷ []
name_of Lna = 76 ∷ 78 ∷ 65 ∷ []
name_of Sna = 83 ∷ 78 ∷ 65 ∷ []

-- every command, once
abbrev pub commands : List Command
commands =
    Lnt ∷ Snt ∷ Lnd ∷ Snd ∷ Lnl ∷ Snl ∷ Lnib ∷ Lnob ∷ Snob ∷ Lnid ∷ Lnod ∷ Snod ∷ Lnbb ∷ Snbb ∷ Lnbd ∷ Snbd ∷ Lna ∷ Sna ∷ []

-- the program's table is that list (proved in proofs/Names.antt)
abbrev pub CommandsListed : Type 0
CommandsListed = COMMANDS ≡ commands

-- the first of them that has the name
unfoldable pub among : List Command → List ℕ → Option Command
among [] s = None
among (c ∷ cs) s = cond (same s (name_of c)) (Some c) (among cs s)

unfoldable pub command_of : List ℕ → Option Command
command_of s = among commands s

-- where a name of three or four letters at the front of a text ends, which SP or the text's end follows; 0 for none
abbrev pub name_end : List ℕ → ℕ
name_end s = cond (ltb (length s) 3) 0 (cond (empty_or 32 (drop 3 s)) 3 (cond (empty_or 32 (drop 4 s)) 4 0))
