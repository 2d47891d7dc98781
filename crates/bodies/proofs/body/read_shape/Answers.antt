use Prim.Native.Nat.{ℕ, ◌+◌, ◌≤◌}
use mathlib.Core.Path.{◌≡◌, sym, ap, ◌∙◌}
use mathlib.Core.Bool.{true, false, cond}
use mathlib.Core.List.{List, [], ◌∷◌, map}
use borrow.Author.Tests.{not-true, not-false}
use Rattle.std.specs.Prelude.{None, Some, Ok, Err}
use Rattle.std.proofs.lemmas.Result.{err_from_is_err_and}
use lib.ListN.{length, drop}
use Rattle.text.specs.Scan.{field_at}
use Rattle.text.specs.Whole.{read_whole}
use Rattle.text.specs.declared.field.Field.{Field}
use Rattle.text.specs.declared.field.Malformed.{Malformed}
use Rattle.text.specs.Read.{Read, malformed, read_at, read_field_at}
use Rattle.text.proofs.Read.{was_read, was_wrong, field_read, field_wrong}
use Rattle.frame.specs.Fields.{fields, Placed, placed_more, placed, reads_as, start_of, offending}
use Rattle.frame.proofs.Laws.{first_is}
use Rattle.frame.proofs.Placed.{placed_texts, placed_only, placed_next, offending_none, offending_next}
use Rattle.commands.specs.declared.table.Rule.{Rule}
use Rattle.commands.specs.declared.request.Row.{Row}
use Rattle.commands.specs.declared.request.Payload.{Payload}
use Rattle.steps.specs.declared.step.Step.{Step}
use Rattle.data.specs.declared.data.DataRead.{DataRead}
use Rattle.data.specs.declared.data.DataRead.TheVariants as data_read
use Rattle.data.specs.Data.{read_data, data_forms, data_in, payload_with}
use Rattle.data.proofs.Texts.{no_fields}
use Rattle.bodies.specs.Body.{data_shape, numbered, given, read_shape}
use Rattle.bodies.specs.Position.{forms, started, shape_in, given_with}
use Rattle.bodies.proofs.body.read_shape.Goals as goal

-- ---- the answer for a list of fields

module _ (etx : ℕ) (rule : Rule) where
  answer : List Placed → Read (ℕ × (Payload × ℕ))
  answer fs = read_at (offending etx (forms rule) fs) (started (start_of etx (drop 1 fs)) (read_shape rule (map (λ f. f.text) fs)))

  module _ (f : Placed) (fs : List Placed) where
    unread : read_whole f.text ≡ None → answer (f ∷ fs) ≡ Err (malformed f.position)
    unfolding answer read_shape
    unread e = rw (offending_next etx (λ s. reads_as (λ n. true) (read_whole s)) (cond rule.store (data_forms rule.form) []) f fs, e)

    -- the number is n, and the fields after it decide
    read : {n : ℕ} → read_whole f.text ≡ Some n → answer (f ∷ fs) ≡ read_at (offending etx (cond rule.store (data_forms rule.form) []) fs) (started (start_of etx fs) (numbered (Some n) (data_shape rule.store rule.form (map (λ g. g.text) fs))))
    unfolding answer read_shape
    read e = rw (offending_next etx (λ s. reads_as (λ n. true) (read_whole s)) (cond rule.store (data_forms rule.form) []) f fs, e)

-- ---- the fields that stand at index i

module _ (rule : Rule) (s : List ℕ) (i : ℕ) where
  here : Placed
  here = record { position = i; text = field_at s i }

  answer_is : (fs : List Placed) → placed i (drop i s) ≡ fs → shape_in rule s i ≡ answer (length s) rule fs
  unfolding answer
  answer_is fs e = rw (← placed_texts i (drop i s), e)

  misread : {m : Malformed} → Err m ≡ read_field_at read_whole s i → Err m ≡ shape_in rule s i
  unfolding placed here
  misread r =
      let w = field_wrong read_whole s i r in
      ap Err w.1 ∙ sym (answer_is (here ∷ placed_more i (drop i s)) (rw (first_is (drop i s))) ∙ unread (length s) rule here (placed_more i (drop i s)) w.0)

  -- the number that was read
  module _ (h : i ≤ length s) {number : Field ℕ} (r : Ok number ≡ read_field_at read_whole s i) where
    alone : number.end ≡ length s → shape_in rule s i ≡ read_at (offending number.end (cond rule.store (data_forms rule.form) []) []) (started number.end (numbered (Some number.value) (data_shape rule.store rule.form [])))
    unfolding here
    alone z =
        let w = field_read read_whole s i r in
        answer_is (here ∷ []) (placed_only s i h (sym w.1 ∙ z)) ∙ rw (z) (read (length s) rule here [] w.0)

    followed : (number.end ≡ length s → ⊥) → shape_in rule s i ≡ read_at (offending (length s) (cond rule.store (data_forms rule.form) []) (placed (number.end + 1) (drop (number.end + 1) s))) (started (number.end + 1) (numbered (Some number.value) (data_shape rule.store rule.form (fields (drop (number.end + 1) s)))))
    unfolding here placed
    followed z =
        let w = field_read read_whole s i r in
        answer_is (here ∷ placed (number.end + 1) (drop (number.end + 1) s)) (rw w.1 (placed_next s i h (λ d. z (w.1 ∙ d))))
        ∙ read (length s) rule here (placed (number.end + 1) (drop (number.end + 1) s)) w.0
        ∙ rw (placed_texts (number.end + 1) (drop (number.end + 1) s))

    -- fields lack, or there is one too many
    lacks : rule.store ≡ true → number.end ≡ length s → Err (malformed number.end) ≡ shape_in rule s i
    lacks t z = let d = no_fields number.end rule.form in sym (alone z ∙ rw (t, d.0, d.1))

    surplus : rule.store ≡ false → (number.end ≡ length s → ⊥) → Err (malformed (number.end + 1)) ≡ shape_in rule s i
    unfolding fields placed
    surplus t z = sym (followed z ∙ rw (t, offending_none (length s) (placed (number.end + 1) (drop (number.end + 1) s))))

    -- no data are given, or the data decide
    bare : (row : Row) → rule.store ≡ false → number.end ≡ length s → Ok (number.value, (given rule.store row, number.end)) ≡ shape_in rule s i
    bare row t z = ap (λ x. Ok (number.value, (given x row, number.end))) t ∙ sym (alone z ∙ rw t)

    module _ (t : rule.store ≡ true) (z : number.end ≡ length s → ⊥) where
      with_data : {p : Payload} → Ok p ≡ data_in rule.form s (number.end + 1) → Ok (number.value, (p, number.end + 1)) ≡ shape_in rule s i
      with_data d = sym (followed z ∙ rw (t, was_read _ (read_data rule.form (fields (drop (number.end + 1) s))) d))

      with_read : (q : Step) (d : DataRead) → Ok (payload_with q d) ≡ data_in rule.form s (number.end + 1) → Ok (number.value, (given_with rule.store q d, number.end + 1)) ≡ shape_in rule s i
      with_read q (data_read.Numbers r) d = ap (λ x. Ok (number.value, (given x r, number.end + 1))) t ∙ with_data d
      with_read q data_read.Texts d = with_data d

      misshapen : {m : Malformed} → Err m ≡ data_in rule.form s (number.end + 1) → Err m ≡ shape_in rule s i
      misshapen d =
          let w = was_wrong _ (read_data rule.form (fields (drop (number.end + 1) s))) d in
          ap Err w.1 ∙ sym (followed z ∙ rw (t, w.0))

pub returns-in_err-number : goal.returns-in_err-number
returns-in_err-number c =
    let p = err_from_is_err_and c.from_residual.result c.from_residual.ensures.1 in
    rw (p.1, p.2) (misread c.args.rule c.args.from.text.now c.args.from.index c.in_err-number.ensures.value)

pub returns-then-rule : goal.returns-then-rule
returns-then-rule c =
    lacks c.args.rule c.args.from.text.now c.args.from.index c.args.from.in_bounds c.in_ok-number.ensures.value c.if-rule.true c.if-number-text.true

pub returns-then-number-text : goal.returns-then-number-text
returns-then-number-text c =
    bare c.args.rule c.args.from.text.now c.args.from.index c.args.from.in_bounds c.in_ok-number.ensures.value _ c.if-rule.false c.if-number-text.true

pub returns-then-not-rule : goal.returns-then-not-rule
returns-then-not-rule c =
    surplus c.args.rule c.args.from.text.now c.args.from.index c.args.from.in_bounds c.in_ok-number.ensures.value (not-true _ c.if-not-rule.true) c.if-number-text.false

pub returns-in_err-data : goal.returns-in_err-data
returns-in_err-data c =
    let p = err_from_is_err_and c.from_residual-in_err-data.result c.from_residual-in_err-data.ensures.1 in
    rw (p.1, p.2) (misshapen c.args.rule c.args.from.text.now c.args.from.index c.args.from.in_bounds c.in_ok-number.ensures.value (not-false _ c.if-not-rule.false) c.if-number-text.false c.in_err-data.ensures)

pub returns : goal.returns
returns c =
    with_read c.args.rule c.args.from.text.now c.args.from.index c.args.from.in_bounds c.in_ok-number.ensures.value (not-false _ c.if-not-rule.false) c.if-number-text.false _ _ c.in_ok-data.ensures
