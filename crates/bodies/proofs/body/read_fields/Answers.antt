use Prim.Native.Nat.{ℕ, ◌+◌, ◌-◌, ◌≤◌}
use mathlib.Core.Path.{◌≡◌, refl, sym, ap, ◌∙◌}
use mathlib.Core.Bool.{true, false, cond}
use mathlib.Core.List.{List, [], ◌∷◌}
use Rattle.std.specs.Prelude.{Option, None, Some, Ok, Err}
use native.Mathlib.Omega.{arith}
use lib.Dec.{eqb}
use lib.ListN.{length, take, drop}
use Rattle.text.specs.declared.field.Field.{Field}
use Rattle.text.specs.declared.field.Malformed.{Malformed}
use Rattle.text.specs.Read.{read_at, field_with}
use Rattle.text.specs.Scan.{field_at, end_at}
use Rattle.text.proofs.Read.{was_read, was_wrong, field_read, field_wrong}
use Rattle.text.proofs.Laws.{rest}
use Rattle.frame.specs.Fields.{Placed, placed_more, placed, start_of, offending}
use Rattle.frame.proofs.Laws.{first_is}
use Rattle.frame.proofs.Placed.{placed_texts, placed_only, placed_next, offending_lack}
use Rattle.names.specs.declared.command.Command.{Command}
use Rattle.names.specs.declared.command.Command.TheVariants.{Sna}
use Rattle.commands.specs.declared.table.Rule.{Rule}
use Rattle.commands.specs.declared.request.Payload.{Payload}
use Rattle.names.specs.Command.{command_of}
use Rattle.commands.specs.Table.{rule_of}
use Rattle.commands.specs.declared.request.Payload.TheVariants as payload
use Rattle.steps.specs.declared.step.Step.{Step}
use Rattle.steps.specs.Step.{is_step}
use Rattle.data.specs.Ranges.{data_fit}
use Rattle.numbers.proofs.Where.{no_some, false_true}
use Rattle.bodies.specs.Body.{Judged, read_shape, request_or_refusal, shaped, after_name, of_fields, read_body}
use Rattle.bodies.specs.Position.{forms, ranges, after_name_position, fields_position, started, shape_in, refused_at, judged_at}
use Rattle.bodies.proofs.Requests.{reads_texts}
use Rattle.bodies.proofs.Position.{texts, number_at, data_at, same_place}
use Rattle.bodies.proofs.body.read_fields.Goals as goal

-- ---- what the fields after the name were read as

start_some : (start : ℕ) (o : Option (ℕ × Payload)) {n d : ℕ} {p : Payload} → started start o ≡ Some (n, (p, d)) → (o ≡ Some (n, p)) × (d ≡ start)
start_some start (Some q) {n} {d} {p} e =
    let w : ◌≡◌ {A = ℕ × (Payload × ℕ)} (q.0, (q.1, start)) (n, (p, d)) = cc in
    (ap (λ (x : ℕ × (Payload × ℕ)). Some (x.0, x.1.0)) w, sym (ap (λ (x : ℕ × (Payload × ℕ)). x.1.1) w))
start_some start None e = no_some e

start_none : (start : ℕ) (o : Option (ℕ × Payload)) → started start o ≡ None → o ≡ None
start_none start (Some q) e = no_some (sym e)
start_none start None e = refl

-- ---- the fields that stand at index i

module _ (s : List ℕ) (i : ℕ) where
  here : Placed
  here = record { position = i; text = field_at s i }

  -- what is promised of them
  abbrev promised : Judged × ℕ
  promised = judged_at (fields_position (length s) (placed i (drop i s))) (read_body (drop i s))

  answer_is : (fs : List Placed) → placed i (drop i s) ≡ fs → promised ≡ judged_at (fields_position (length s) fs) (of_fields (texts fs))
  unfolding read_body
  answer_is fs e = rw (← placed_texts i (drop i s), e)

  -- by the name, and the fields after it
  abbrev named : List Placed → Option Command → Judged × ℕ
  named fs c = judged_at (λ n. cond (eqb n 9) i (after_name_position (length s) c fs n)) (after_name c (texts fs))

  -- the name that the code reads, of the text from there on
  abbrev name_at : Option (Field Command)
  name_at = field_with command_of (take (length s - i) (drop i s)) 0

  unknown : None ≡ name_at → refused_at 9 false i ≡ promised
  unfolding placed here
  unknown r =
      let w : command_of (field_at s i) ≡ None = rw (rest i s) at (field_wrong command_of (take (length s - i) (drop i s)) 0 (ap (read_at 0) r)).0 in
      sym (answer_is (here ∷ placed_more i (drop i s)) (rw (first_is (drop i s))) ∙ ap (named (placed_more i (drop i s))) w)

  -- the name that was read ends at e
  module _ (h : i ≤ length s) {name : Field Command} (r : Some name ≡ name_at) {rule : Rule} (u : rule ≡ rule_of name.value) where
    abbrev k : Command
    k = name.value

    abbrev e : ℕ
    e = i + name.end

    was : (command_of (field_at s i) ≡ Some k) × (e ≡ end_at s i)
    was =
        let w = rw (rest i s) at (field_read command_of (take (length s - i) (drop i s)) 0 (ap (read_at 0) r)) in
        (w.0, omega (arith, w.1))

    alone : e ≡ length s → refused_at 10 rule.store e ≡ promised
    unfolding here read_shape
    alone z = sym (answer_is (here ∷ []) (placed_only s i h (sym was.1 ∙ z)) ∙ ap (named []) was.0 ∙ rw (← u, z, offending_lack (length s) _ _))

    module _ (z : e ≡ length s → ⊥) where
      -- the fields after the name
      after : List Placed
      after = placed (e + 1) (drop (e + 1) s)

      place : ℕ → ℕ
      place n = cond (eqb n 9) i (offending (length s) (cond (eqb n 10) (forms (rule_of k)) (ranges (rule_of k))) after)

      followed : promised ≡ judged_at place (shaped k (read_shape (rule_of k) (texts after)))
      unfolding here after place
      followed = answer_is (here ∷ after) (rw was.1 (placed_next s i h (λ d. z (was.1 ∙ d)))) ∙ ap (named after) was.0

      shape_is : shape_in rule s (e + 1) ≡ read_at (offending (length s) (forms (rule_of k)) after) (started (start_of (length s) (drop 1 after)) (read_shape (rule_of k) (texts after)))
      unfolding after
      shape_is = rw (u, ← placed_texts (e + 1) (drop (e + 1) s))

      misshapen : {m : Malformed} → Err m ≡ shape_in rule s (e + 1) → refused_at 10 rule.store m.position ≡ promised
      unfolding place
      misshapen {m} d =
          let o = was_wrong _ (started (start_of (length s) (drop 1 after)) (read_shape (rule_of k) (texts after))) (d ∙ shape_is) in
          ap (λ (x : Rule). refused_at 10 x.store m.position) u ∙ ap (λ (x : Malformed). refused_at 10 (rule_of k).store x.position) o.1 ∙ sym (followed ∙ ap (λ x. judged_at place (shaped k x)) (start_none _ (read_shape (rule_of k) (texts after)) o.0))

      module _ {n d : ℕ} {p : Payload} (x : Ok (n, (p, d)) ≡ shape_in rule s (e + 1)) where
        was_shaped : (read_shape (rule_of k) (texts after) ≡ Some (n, p)) × (d ≡ start_of (length s) (drop 1 after))
        was_shaped = start_some _ (read_shape (rule_of k) (texts after)) (was_read _ (started (start_of (length s) (drop 1 after)) (read_shape (rule_of k) (texts after))) (x ∙ shape_is))

        -- refused with 11 at the number, and with 12 at the data
        judged : (at : ℕ → ℕ) → at 11 ≡ e + 1 → (data_fit (rule_of k) p ≡ false → at 12 ≡ d) → {v : Judged × ℕ} → v ≡ judged_at at (request_or_refusal k n p) → v ≡ promised
        unfolding place after placed
        judged at a b y =
            let o = was_shaped in
            y
            ∙ same_place k n p at place
            (λ t. a ∙ sym (number_at (length s) (rule_of k) after o.0 t))
            (λ t j. b j ∙ o.1 ∙ sym (data_at (length s) (rule_of k) after o.0 t j))
            ∙ sym (followed ∙ ap (λ r. judged_at place (shaped k r)) o.0)

      -- texts are SNA's
      module _ {n d : ℕ} {t : Step} (x : Ok (n, (payload.Texts t, d)) ≡ shape_in rule s (e + 1)) where
        stores_step : (k ≡ Sna) × (is_step t ≡ true)
        stores_step = reads_texts k (texts after) (was_shaped x).0

        judged_step : {v : Judged × ℕ} → v ≡ judged_at (λ m. e + 1) (request_or_refusal Sna n (payload.Texts t)) → v ≡ promised
        judged_step {v} y =
            let w = stores_step in
            judged x (λ m. e + 1) refl (λ z. false_true (sym (rw (w.0, w.1) at z))) (rw w.0 y)

pub returns-in_default : goal.returns-in_default
returns-in_default c =
    rw c.at.ensures (unknown c.args.from.text.now c.args.from.index c.in_default.ensures.name_value)

pub returns-then-end-text : goal.returns-then-end-text
returns-then-end-text c =
    rw c.at-then-end-text.ensures (alone c.args.from.text.now c.args.from.index c.args.from.in_bounds c.in-Some.ensures.name_value c.rule_of-rule.ensures c.if-end-text.true)

pub step_or_refusal-requires : goal.step_or_refusal-requires
step_or_refusal-requires c =
    c.rule_of-rule.ensures ∙ ap rule_of (stores_step c.args.from.text.now c.args.from.index c.args.from.in_bounds c.in-Some.ensures.name_value c.rule_of-rule.ensures c.if-end-text.false (rw c.in-Texts.is at c.in-Ok.ensures)).0

pub returns-in-Numbers : goal.returns-in-Numbers
returns-in-Numbers c =
    judged c.args.from.text.now c.args.from.index c.args.from.in_bounds c.in-Some.ensures.name_value c.rule_of-rule.ensures c.if-end-text.false (rw c.in-Numbers.is at c.in-Ok.ensures) _ refl (λ z. refl) (c.request_or_refusal.ensures c.read_shape.new.step)

pub returns-in-Texts : goal.returns-in-Texts
returns-in-Texts c =
    let a = c.args.from in
    let x = rw c.in-Texts.is at c.in-Ok.ensures in
    judged_step a.text.now a.index a.in_bounds c.in-Some.ensures.name_value c.rule_of-rule.ensures c.if-end-text.false x
    (c.step_or_refusal.ensures c.read_shape.new.step (stores_step a.text.now a.index a.in_bounds c.in-Some.ensures.name_value c.rule_of-rule.ensures c.if-end-text.false x).1)

pub returns-in-Err : goal.returns-in-Err
returns-in-Err c =
    rw c.at-in-Err.ensures (misshapen c.args.from.text.now c.args.from.index c.args.from.in_bounds c.in-Some.ensures.name_value c.rule_of-rule.ensures c.if-end-text.false c.in-Err.ensures)
