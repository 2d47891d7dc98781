-- The body of a request (document 01, "Commands" and refusals 9 to 12).
use Rattle.std.specs.Prelude.{ℕ, Bool, true, false, cond, List, [], ◌∷◌, ◌++◌, eqb, Option, None, Some}
use Rattle.text.specs.Whole.{read_whole, shortest}
use Rattle.frame.specs.Fields.{fields}
use Rattle.names.specs.declared.command.Command.{Command}
use Rattle.commands.specs.declared.table.Form.{Form}
use Rattle.commands.specs.declared.table.Rule.{Rule}
use Rattle.commands.specs.declared.request.Payload.{Payload}
use Rattle.commands.specs.declared.request.Payload.TheVariants as payload
use Rattle.commands.specs.declared.request.Parts.{Parts}
use Rattle.commands.specs.declared.request.Row.{Row}
use Rattle.commands.specs.declared.request.Request.{Request}
use Rattle.names.specs.Command.{command_of, name_of}
use Rattle.commands.specs.Table.{rule_of}
use Rattle.commands.specs.Request.{builds}
use Rattle.data.specs.Ranges.{judge}
use Rattle.data.specs.Data.{read_data, data_text}

-- what a body is as a request; a refusal carries its number, and whether it answers an SN name
pub data Judged : Type 0 where
  Accepted : Request → Judged
  Refused : ℕ → Bool → Judged

-- the fields after the number: data for an SN, none for an LN
abbrev pub data_shape : Bool → Form → List (List ℕ) → Option Payload
data_shape true f fs = read_data f fs
data_shape false f [] = Some payload.None
data_shape false f (g ∷ fs) = None

abbrev pub numbered : Option ℕ → Option Payload → Option (ℕ × Payload)
numbered (Some n) (Some p) = Some (n, p)
numbered (Some n) None = None
numbered None p = None

-- the fields after the name: the number, then the data
unfoldable pub read_shape : Rule → List (List ℕ) → Option (ℕ × Payload)
read_shape rule [] = None
read_shape rule (n ∷ fs) = numbered (read_whole n) (data_shape rule.store rule.form fs)

-- numbers as the data of an SN; an LN has none
abbrev pub given : Bool → Row → Payload
given true r = payload.Numbers r
given false r = payload.None

-- 11 NUMBER, 12 VALUE, or the request
unfoldable pub request_or_refusal : Command → ℕ → Payload → Judged
request_or_refusal c n p =
    cond (eqb (judge (rule_of c) n p) 0) (Accepted (builds c n p)) (Refused (judge (rule_of c) n p) (rule_of c).store)

-- 10 SHAPE, then those
abbrev pub shaped : Command → Option (ℕ × Payload) → Judged
shaped c (Some p) = request_or_refusal c p.0 p.1
shaped c None = Refused 10 (rule_of c).store

-- 9 COMMAND, then those
abbrev pub after_name : Option Command → List (List ℕ) → Judged
after_name (Some c) fs = shaped c (read_shape (rule_of c) fs)
after_name None fs = Refused 9 false

abbrev pub of_fields : List (List ℕ) → Judged
of_fields [] = Refused 9 false
of_fields (name ∷ fs) = after_name (command_of name) fs

-- a body as a request: checks 9 to 12, in their order
unfoldable pub read_body : List ℕ → Judged
read_body s = of_fields (fields s)

-- SP and the data, for an SN
abbrev pub data_part : Bool → Form → Payload → List ℕ
data_part true f p = 32 ∷ data_text f p
data_part false f p = []

-- the name, SP, the number, and for an SN the data
unfoldable pub body_text : Parts → List ℕ
body_text p =
    name_of p.command
    ++ (32 ∷ (shortest p.number ++ data_part (rule_of p.command).store (rule_of p.command).form p.payload))
