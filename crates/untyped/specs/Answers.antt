-- Which kind of reading answers which request, whatever the slice (proved in proofs/Answers.antt).
use Rattle.std.specs.Prelude.{ℕ, ◌≡◌, cond, List, ◌⊎◌, Option, None, Some}
use Rattle.commands.specs.declared.table.Kind.TheVariants.{Timer, Register, Row, Signal, Port}
use Rattle.commands.specs.declared.table.Form.{Form}
use Rattle.commands.specs.declared.table.Form.TheVariants.{Numbers, Texts}
use Rattle.commands.specs.declared.table.Rule.{Rule}
use Rattle.commands.specs.declared.request.Request.{Request}
use Rattle.harl.specs.Message.{rule_for, read_reply}
use Rattle.readings.specs.declared.convert.Converted.{Converted}
use Rattle.readings.specs.Reply.{converted}
use Rattle.untyped.specs.Untyped.{carried_by}

-- data of a form: seconds for LNT, millimetres for LNL, a count for LND and for every signal and port, a step for LNA
abbrev pub kind_of : Form → ℕ
kind_of (Numbers Timer) = 1
kind_of (Numbers Register) = 3
kind_of (Numbers Row) = 2
kind_of (Numbers Signal) = 3
kind_of (Numbers Port) = 3
kind_of Texts = 5

-- an SN has a status, and no double
abbrev pub kind_for : Rule → ℕ
kind_for rule = cond rule.store 4 (kind_of rule.form)

-- the kind that the request asks for, or a status
abbrev pub Answers : Rule → Option Converted → Type 0
Answers rule None = Unit {0}
Answers rule (Some c) = ((carried_by c).kind ≡ kind_for rule) ⊎ ((carried_by c).kind ≡ 4)

abbrev pub KindsAsked : Type 0
KindsAsked = (s : List ℕ) (station : ℕ) (r : Request) → Answers (rule_for r) (converted (read_reply s station r)).carries
