use Prim.Native.Nat.{ℕ, ◌+◌}
use mathlib.Core.Path.{◌≡◌, refl, sym, ap, ◌∙◌}
use mathlib.Core.List.{List, [], ◌∷◌, map}
use mathlib.Core.Logic.{◌⊎◌, inl, inr}
use Rattle.std.specs.Prelude.{Option, None, Some}
use Rattle.std.specs.Result.{result_ok}
use native.Mathlib.Omega.{arith}
use borrow.Author.Tests.{eq-eqb, ne_eqb}
use lib.ListN.{length, drop}
use Rattle.text.specs.Scan.{field_at}
use Rattle.text.specs.Whole.{read_whole}
use Rattle.text.specs.declared.field.Field.{Field}
use Rattle.text.specs.Read.{read_at, read_field_at}
use Rattle.text.proofs.Read.{field_read, field_wrong}
use Rattle.frame.specs.Fields.{Placed, fields, placed, placed_more}
use Rattle.frame.proofs.Laws.{first_is}
use Rattle.frame.proofs.Placed.{placed_texts, placed_only, placed_next}
use Rattle.commands.specs.declared.table.Form.TheVariants.{Texts}
use Rattle.replies.specs.declared.reply.Outcome.{Outcome}
use Rattle.data.specs.Data.{read_data}
use Rattle.data.proofs.Texts.{no_fields}
use Rattle.reply_reader.specs.Reader.{read_content, as_data}
use Rattle.reply_reader.proofs.reader.Expected.read_asked.Goals as goal

-- an answer without its position, and with it again
without : {A : Type 0} (at : ℕ) (o : Option A) → result_ok (read_at at o) ≡ o
without at (Some a) = refl
without at None = refl

with : {A : Type 0} (at : ℕ) (o : Option A) {p : Option A} → p ≡ result_ok (read_at at o) → read_at at p ≡ read_at at o
with at o e = ap (read_at at) (e ∙ without at o)

module _ (asked : ℕ) (s : List ℕ) where
  promised : Option Outcome
  promised = as_data Texts asked (read_content Texts asked (fields s))

  -- the fields of a body, with their positions
  answer_is : (fs : List Placed) → placed 0 (drop 0 s) ≡ fs → promised ≡ as_data Texts asked (read_content Texts asked (map (λ f. f.text) fs))
  unfolding promised
  answer_is fs e = rw (← placed_texts 0 s, ← e)

  unread : None ≡ result_ok (read_field_at read_whole s 0) → None ≡ promised
  unfolding placed
  unread r =
      let w = field_wrong read_whole s 0 (with 0 _ r) in
      sym (answer_is (record { position = 0; text = field_at s 0 } ∷ placed_more 0 s) (rw (first_is s)) ∙ rw w.0)

  module _ {number : Field ℕ} (r : Some number ≡ result_ok (read_field_at read_whole s 0)) where
    another : (number.value ≡ asked → ⊥) → None ≡ promised
    unfolding placed
    another z =
        let w = field_read read_whole s 0 (with 0 _ r) in
        sym (answer_is (record { position = 0; text = field_at s 0 } ∷ placed_more 0 s) (rw (first_is s)) ∙ rw (w.0, ne_eqb number.value asked z))

    module _ (same : number.value ≡ asked) where
      alone : number.end ≡ length s → None ≡ promised
      alone z =
          let w = field_read read_whole s 0 (with 0 _ r) in
          sym (answer_is (record { position = 0; text = field_at s 0 } ∷ []) (placed_only s 0 (omega arith) (sym w.1 ∙ z)) ∙ rw (w.0, eq-eqb number.value asked same, (no_fields 0 Texts).1))

      followed : (number.end ≡ length s → ⊥) → promised ≡ as_data Texts asked (read_data Texts (fields (drop (number.end + 1) s)))
      followed z =
          let w = field_read read_whole s 0 (with 0 _ r) in
          answer_is (record { position = 0; text = field_at s 0 } ∷ placed (number.end + 1) (drop (number.end + 1) s)) (rw w.1 (placed_next s 0 (omega arith) (λ d. z (w.1 ∙ d))))
          ∙ rw (w.0, eq-eqb number.value asked same, placed_texts (number.end + 1) (drop (number.end + 1) s))

    refused : (number.value ≡ asked → ⊥) ⊎ ((number.value ≡ asked) × (number.end ≡ length s)) → None ≡ promised
    refused (inl z) = another z
    refused (inr z) = alone z.0 z.1

pub returns-in_err-number : goal.returns-in_err-number
unfolding promised
returns-in_err-number c =
    c.from_residual.ensures ∙ unread c.args.self.asked c.args.body.now (rw (c.read_whole.ensures.value, c.front.ensures.text, c.front.ensures.first) at c.in_err-number.ensures.value)

pub returns-then-number-self : goal.returns-then-number-self
unfolding promised
returns-then-number-self c =
    refused c.args.self.asked c.args.body.now (rw (c.read_whole.ensures.value, c.front.ensures.text, c.front.ensures.first) at c.in_ok-number.ensures.value) c.then-number-self.either

pub returns : goal.returns
unfolding promised
returns c =
    (rw c.requires at c.read_content.ensures) ∙ sym (followed c.args.self.asked c.args.body.now (rw (c.read_whole.ensures.value, c.front.ensures.text, c.front.ensures.first) at c.in_ok-number.ensures.value) c.if-number-self.false c.if-number-body.false)
