-- What the body of a reply is read as (document 01, "The tables and replies"; for steps document 02, E3).
use Rattle.std.specs.Prelude.{ℕ, cond, List, [], ◌∷◌, eqb, length, get_or, drop, Option, None, Some}
use Rattle.text.specs.Whole.{read_whole}
use Rattle.frame.specs.Fields.{fields, reads_as}
use Rattle.commands.specs.declared.table.Kind.{Kind}
use Rattle.commands.specs.declared.table.Kind.TheVariants as kind
use Rattle.commands.specs.declared.table.Form.{Form}
use Rattle.commands.specs.declared.table.Form.TheVariants.{Numbers, Texts}
use Rattle.commands.specs.declared.table.Rule.{Rule}
use Rattle.commands.specs.declared.request.Row.{Row}
use Rattle.commands.specs.declared.request.Payload.{Payload}
use Rattle.replies.specs.declared.reply.Data.{Data}
use Rattle.replies.specs.declared.reply.Data.TheVariants as held
use Rattle.replies.specs.declared.reply.Outcome.{Outcome}
use Rattle.replies.specs.declared.reply.Outcome.TheVariants as outcome
use Rattle.commands.specs.Request.{row_in, step_in}
use Rattle.data.specs.Ranges.{in_ranges}
use Rattle.data.specs.Data.{read_data}

-- the data of a kind that numbers are
abbrev pub numbers_of : Kind → Row → Data
numbers_of kind.Timer r = held.Timer r.x
numbers_of kind.Register r = held.Register r.x
numbers_of kind.Row r = held.Row r
numbers_of kind.Signal r = held.Signal r.x
numbers_of kind.Port r = held.Port r.x

-- the data of a form that answer the request for number n
abbrev pub data_of : Form → ℕ → Payload → Data
data_of (Numbers k) n p = numbers_of k (row_in p)
data_of Texts n p = held.Step n (step_in p)

abbrev pub as_status : Option ℕ → Option Outcome
as_status (Some v) = Some (outcome.Status v)
as_status None = None

-- any two digits
unfoldable pub read_status : List ℕ → Option Outcome
read_status s = cond (eqb (length s) 2) (as_status (read_whole s)) None

-- the fields of a reply as data: before the texts of a step stands the asked number
abbrev pub read_content : Form → ℕ → List (List ℕ) → Option Payload
read_content (Numbers k) asked fs = read_data (Numbers k) fs
read_content Texts asked [] = None
read_content Texts asked (f ∷ fs) = cond (reads_as (λ n. eqb n asked) (read_whole f)) (read_data Texts fs) None

-- data within the command's data range
abbrev pub as_data : Form → ℕ → Option Payload → Option Outcome
as_data f asked (Some p) = cond (in_ranges f p) (Some (outcome.Data (data_of f asked p))) None
as_data f asked None = None

-- "E" and any two digits, or data
unfoldable pub read_load_outcome : Form → ℕ → List ℕ → Option Outcome
read_load_outcome f asked s = cond (eqb (get_or s 0 0) 69) (read_status (drop 1 s)) (as_data f asked (read_content f asked (fields s)))

-- what the body of a reply to a command carries, which was sent with a number
abbrev pub read_outcome : Rule → ℕ → List ℕ → Option Outcome
read_outcome rule asked s = cond rule.store (read_status s) (read_load_outcome rule.form asked s)
