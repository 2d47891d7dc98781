-- How long the bodies of replies are.
use Prim.Native.Nat.{ℕ, ◌+◌, ◌≤◌}
use mathlib.Core.Bool.{Bool, true, false, cond}
use mathlib.Core.List.{[], ◌∷◌}
use native.Mathlib.Omega.{arith}
use lib.Dec.{eqb}
use lib.ListN.{length, length-append}
use Rattle.text.specs.Whole.{digit, shortest}
use Rattle.text.proofs.Digits.{shortest_short}
use Rattle.commands.specs.declared.table.Form.{Form}
use Rattle.commands.specs.declared.table.Form.TheVariants.{Numbers, Texts}
use Rattle.commands.specs.Request.{row_in}
use Rattle.numbers.proofs.Texts.{numbers_length}
use Rattle.data.specs.Data.{data_text}
use Rattle.data.proofs.Texts.{most_bytes_lem, data_length}
use Rattle.replies.specs.declared.reply.Outcome.{Outcome}
use Rattle.replies.specs.declared.reply.Outcome.TheVariants as outcome
use Rattle.replies.specs.declared.reply.Content.{Content}
use Rattle.replies.specs.Reply.{content_of, unknown_text, status_text, refusal_text, number_part, content_text, performed_text}

pub status_length : (t : Bool) (n : ℕ) → (1 ≤ length (status_text t n)) × (length (status_text t n) ≤ 3)
unfolding status_text digit
status_length true n = (omega arith, omega arith)
status_length false n = (omega arith, omega arith)

pub refusal_length : (n : ℕ) (store : Bool) → length (refusal_text n store) ≤ 3
refusal_length n store = go (eqb n 9)
  where
    go : (t : Bool) → length (cond t unknown_text (status_text store n)) ≤ 3
    go true = omega arith
    go false = (status_length store n).1

-- at most 4 digits and SP before the data
part_length : (f : Form) (n : ℕ) → length (number_part f n) ≤ 5
part_length (Numbers k) n = omega arith
part_length Texts n = omega (arith, length-append (shortest n) (32 ∷ []), shortest_short n)

pub content_length : (c : Content) → (1 ≤ length (content_text c)) × (length (content_text c) ≤ 56)
content_length c =
    let e = length-append (number_part c.form c.number) (data_text c.form c.payload) in
    (omega (arith, e, some_byte c.form), omega (arith, e, part_length c.form c.number, data_length c.form c.payload, most_bytes_lem c.form))
  where
    some_byte : (f : Form) → 1 ≤ length (number_part f c.number) + length (data_text f c.payload)
    some_byte (Numbers k) = omega (arith, (numbers_length k (row_in c.payload)).0)
    some_byte Texts = omega (arith, length-append (shortest c.number) (32 ∷ []))

pub performed_length : (o : Outcome) → (1 ≤ length (performed_text o)) × (length (performed_text o) ≤ 56)
performed_length (outcome.Data d) = content_length (content_of d)
performed_length (outcome.Status n) =
    let l = status_length (eqb n 0) n in
    (l.0, omega arith)
