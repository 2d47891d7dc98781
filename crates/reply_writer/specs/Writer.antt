-- What a typed reply carries, judged and as text (document 01, "The tables and replies"; for steps document 02, E3).
use Rattle.std.specs.Prelude.{ℕ, Bool, true, false, cond, ◌&&◌, List, ltb, eqb}
use Rattle.commands.specs.declared.table.Kind.{Kind}
use Rattle.commands.specs.declared.table.Kind.TheVariants as kind
use Rattle.commands.specs.declared.table.Form.{Form}
use Rattle.commands.specs.declared.table.Form.TheVariants.{Numbers, Texts}
use Rattle.commands.specs.declared.table.Rule.{Rule}
use Rattle.replies.specs.declared.reply.Outcome.{Outcome}
use Rattle.replies.specs.declared.reply.Outcome.TheVariants as outcome
use Rattle.replies.specs.declared.reply.Content.{Content}
use Rattle.data.specs.Ranges.{in_ranges}
use Rattle.replies.specs.Reply.{content_of, status_text, content_text}

-- a number for each form
abbrev pub kind_code : Kind → ℕ
kind_code kind.Timer = 0
kind_code kind.Register = 1
kind_code kind.Row = 2
kind_code kind.Signal = 3
kind_code kind.Port = 4

abbrev pub code_of : Form → ℕ
code_of (Numbers k) = kind_code k
code_of Texts = 5

-- a step replies its number, which is the asked one
abbrev pub number_fits : Form → ℕ → ℕ → Bool
number_fits (Numbers k) asked n = true
number_fits Texts asked n = eqb n asked

-- data answer an LN of their form, and are in range
unfoldable pub content_fits : Rule → ℕ → Content → Bool
content_fits rule asked c =
    cond rule.store false
    (eqb (code_of c.form) (code_of rule.form) && (number_fits rule.form asked c.number && in_ranges rule.form c.payload))

-- 12 VALUE of what replies to a request for a number: data of another form or out of range, another step, a status above 99
unfoldable pub judge_outcome : Rule → ℕ → Outcome → ℕ
judge_outcome rule asked (outcome.Data d) = cond (content_fits rule asked (content_of d)) 0 12
judge_outcome rule asked (outcome.Status n) = cond (ltb 99 n) 12 0

-- the data or the status of a reply, to an SN or not
unfoldable pub outcome_text : Bool → Outcome → List ℕ
outcome_text store (outcome.Data d) = content_text (content_of d)
outcome_text store (outcome.Status n) = status_text store n
