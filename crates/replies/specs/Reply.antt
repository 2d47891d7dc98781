-- The body of a reply (document 01, "The tables and replies"; for steps document 02, E3).
use Rattle.std.specs.Prelude.{ℕ, Bool, true, false, cond, List, [], ◌∷◌, ◌++◌, eqb}
use Rattle.text.specs.Whole.{shortest, two_digits}
use Rattle.steps.specs.Step.{typed_of}
use Rattle.commands.specs.declared.table.Kind.{Kind}
use Rattle.commands.specs.declared.table.Kind.TheVariants as kind
use Rattle.commands.specs.declared.table.Form.{Form}
use Rattle.commands.specs.declared.table.Form.TheVariants.{Numbers, Texts}
use Rattle.commands.specs.declared.request.Row.{Row}
use Rattle.commands.specs.declared.request.Payload.TheVariants as payload
use Rattle.replies.specs.declared.reply.Data.{Data}
use Rattle.replies.specs.declared.reply.Data.TheVariants as held
use Rattle.replies.specs.declared.reply.Outcome.{Outcome}
use Rattle.replies.specs.declared.reply.Outcome.TheVariants as outcome
use Rattle.replies.specs.declared.reply.Content.{Content}
use Rattle.commands.specs.Request.{one}
use Rattle.data.specs.Data.{data_text}

-- numbers reply no number of their own
abbrev pub numbers_content : Kind → Row → Content
numbers_content k r = record { number = 0; form = Numbers k; payload = payload.Numbers r }

-- the form of data, and what they are
abbrev pub content_of : Data → Content
content_of (held.Timer v) = numbers_content kind.Timer (one v)
content_of (held.Register v) = numbers_content kind.Register (one v)
content_of (held.Row r) = numbers_content kind.Row r
content_of (held.Signal v) = numbers_content kind.Signal (one v)
content_of (held.Port v) = numbers_content kind.Port (one v)
content_of (held.Step n s) = record { number = n; form = Texts; payload = payload.Texts s }

-- ---- writing

-- "E" and the two digits for an LN, the two digits alone for an SN
unfoldable pub status_text : Bool → ℕ → List ℕ
status_text true n = two_digits n
status_text false n = 69 ∷ two_digits n

-- "E09"
abbrev pub unknown_text : List ℕ
unknown_text = 69 ∷ 48 ∷ 57 ∷ []

-- "00"
abbrev pub done_text : List ℕ
done_text = 48 ∷ 48 ∷ []

-- what answers a refusal: "E09" for 9, else its number as a status
abbrev pub refusal_text : ℕ → Bool → List ℕ
refusal_text n store = cond (eqb n 9) unknown_text (status_text store n)

-- the number and SP before the texts of a step
abbrev pub number_part : Form → ℕ → List ℕ
number_part (Numbers k) n = []
number_part Texts n = shortest n ++ (32 ∷ [])

abbrev pub content_text : Content → List ℕ
content_text c = number_part c.form c.number ++ data_text c.form c.payload

-- what is replied of a step, by the texts that stand there: 16 EMPTY (document 02, E3) where it was never written
abbrev pub step_outcome : ℕ → List (List ℕ) → Outcome
step_outcome n [] = outcome.Status 16
step_outcome n (t ∷ ts) = outcome.Data (held.Step n (typed_of (t ∷ ts)))

-- the refusal number of a request that was performed: a status is its own
abbrev pub number_in : Outcome → ℕ
number_in (outcome.Data d) = 0
number_in (outcome.Status n) = n

-- what replies to a request that was performed: the data of an LN, the status 0 of an SN, or the refusal of an LN
abbrev pub performed_text : Outcome → List ℕ
performed_text (outcome.Data d) = content_text (content_of d)
performed_text (outcome.Status n) = status_text (eqb n 0) n
