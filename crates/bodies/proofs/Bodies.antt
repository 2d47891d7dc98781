-- How long bodies are.
use Prim.Native.Nat.{◌+◌, ◌≤◌}
use mathlib.Core.Path.{◌≡◌}
use mathlib.Core.Bool.{Bool, true, false}
use native.Mathlib.Omega.{arith}
use borrow.Author.Tests.{ltb-true}
use lib.ListN.{length, length-append}
use Rattle.text.specs.Whole.{shortest}
use Rattle.text.proofs.Digits.{shortest_short}
use Rattle.names.specs.Command.{name_of}
use Rattle.names.proofs.Names.{name}
use Rattle.commands.specs.declared.table.Form.{Form}
use Rattle.commands.specs.declared.request.Payload.{Payload}
use Rattle.commands.specs.declared.request.Parts.{Parts}
use Rattle.commands.specs.Table.{rule_of}
use Rattle.data.proofs.Texts.{most_bytes, most_bytes_lem, data_length}
use Rattle.bodies.specs.Body.{data_part, body_text}

-- the parts of a body, one after the other
pub body_parts : (p : Parts) → length (body_text p) ≡ length (name_of p.command) + (1 + (length (shortest p.number) + length (data_part (rule_of p.command).store (rule_of p.command).form p.payload)))
unfolding body_text
body_parts p = simp length-append (omega arith)

pub part_length : (t : Bool) (f : Form) (p : Payload) → length (data_part t f p) ≤ 1 + most_bytes f
part_length true f p = omega (arith, data_length f p)
part_length false f p = omega arith

pub body_length : (p : Parts) → (1 ≤ length (body_text p)) × (length (body_text p) ≤ 56)
body_length p =
    let d = part_length (rule_of p.command).store (rule_of p.command).form p.payload in
    (omega (arith, body_parts p), omega (arith, body_parts p, ltb-true (length (name_of p.command)) 5 (name p.command).most, shortest_short p.number, most_bytes_lem (rule_of p.command).form))
