-- Every reply that can be written reads back as itself, given its request.
use Prim.Native.Nat.{ℕ, ◌≤◌, ◌<◌, ◌+◌}
use mathlib.Core.Path.{◌≡◌, refl, ap}
use mathlib.Core.Bool.{Bool, true, false, cond}
use mathlib.Core.List.{List, [], ◌∷◌, ◌++◌, append-nil, append_assoc}
use Rattle.std.specs.Prelude.{Some}
use native.Mathlib.Omega.{arith}
use borrow.Author.Tests.{ne_eqb, eqb-true, ltb-false, eqb-false, eq-eqb}
use lib.Dec.{ltb, eqb}
use lib.ListN.{get_or}
use Rattle.text.specs.Scan.{until, before}
use Rattle.text.specs.Whole.{digit, shortest, two_digits}
use Rattle.text.proofs.Laws.{Skips, skips_cons, skips_append, not_first}
use Rattle.text.proofs.Digits.{read_two, two_skips, read_shortest, shortest_some, shortest_skips}
use Rattle.frame.specs.Fields.{fields}
use Rattle.frame.specs.Frame.{is_stray}
use Rattle.frame.proofs.Laws.{fields_cons}
use Rattle.frame.proofs.Reading.{digit_clean}
use Rattle.frame.proofs.Short.{frame_back}
use Rattle.steps.specs.Step.{step_text}
use Rattle.commands.specs.declared.table.Form.{Form}
use Rattle.commands.specs.declared.table.Form.TheVariants.{Numbers, Texts}
use Rattle.commands.specs.declared.table.Rule.{Rule}
use Rattle.commands.specs.declared.request.Payload.{Payload}
use Rattle.commands.specs.Request.{row_in, step_in, parts_of}
use Rattle.replies.specs.declared.reply.Data.{Data}
use Rattle.replies.specs.declared.reply.Data.TheVariants as held
use Rattle.replies.specs.declared.reply.Outcome.{Outcome}
use Rattle.replies.specs.declared.reply.Outcome.TheVariants as outcome
use Rattle.numbers.specs.Numbers.{numbers_text}
use Rattle.numbers.proofs.Texts.{shortest_solid, numbers_skips, numbers_length}
use Rattle.data.specs.Ranges.{in_ranges}
use Rattle.data.specs.Data.{data_text}
use Rattle.replies.specs.declared.reply.Content.{Content}
use Rattle.replies.specs.Reply.{content_of, status_text, number_part, content_text}
use Rattle.reply_writer.specs.Writer.{number_fits, judge_outcome, outcome_text}
use Rattle.reply_reader.specs.Reader.{data_of, as_status, read_status, read_content, read_load_outcome, read_outcome}
use Rattle.harl.specs.Message.{rule_for, judge_asked, judge_reply, read_reply, write_reply}
use Rattle.harl.specs.Back.{RepliesReadBack}
use Rattle.harl.proofs.Laws.{check_passed, fitting}
use Rattle.data.proofs.Texts.{data_clean, kept, data_back}
use Rattle.reply_writer.proofs.Texts.{outcome_length}
use Rattle.harl.proofs.Requests.{judged_ok, asked_ok}

-- ---- a status

status_back : (n : ℕ) → n ≤ 99 → read_status (two_digits n) ≡ Some (outcome.Status n)
unfolding read_status digit
status_back n h = ap as_status (read_two n (omega arith))

-- ---- data

-- data have what their text keeps, and are what their form, number and payload make
record Parted (d : Data) : Type 0 where
  payload_is : kept (content_of d).form (content_of d).payload ≡ (content_of d).payload
  made : data_of (content_of d).form (content_of d).number (content_of d).payload ≡ d

parted : (d : Data) → Parted d
parted (held.Timer v) = record { payload_is = refl; made = refl }
parted (held.Register v) = record { payload_is = refl; made = refl }
parted (held.Row r) = record { payload_is = refl; made = refl }
parted (held.Signal v) = record { payload_is = refl; made = refl }
parted (held.Port v) = record { payload_is = refl; made = refl }
parted (held.Step n s) = record { payload_is = refl; made = refl }

-- data do not start with "E"
no_error : (c : Content) → eqb (get_or (content_text c) 0 0) 69 ≡ false
unfolding until
no_error c = ne_eqb _ _ (not_first 69 (content_text c) (go c.form))
  where
    digit_none : (d : ℕ) → d < 10 → eqb (d + 48) 69 ≡ false
    digit_none d h = ne_eqb (d + 48) 69 (λ e. omega arith)

    go : (f : Form) → 1 ≤ before 69 (number_part f c.number ++ data_text f c.payload)
    go (Numbers k) =
        let t : List ℕ = numbers_text k (row_in c.payload) in
        omega (arith, numbers_skips (λ b. eqb b 69) digit_none refl refl refl k (row_in c.payload) [], ap (before 69) (append-nil t), (numbers_length k (row_in c.payload)).0)
    go Texts =
        let t : List ℕ = shortest c.number in
        let u : List ℕ = step_text (step_in c.payload) in
        omega (arith, shortest_skips (λ b. eqb b 69) digit_none c.number ((32 ∷ []) ++ u), ap (before 69) (append_assoc t (32 ∷ []) u), shortest_some c.number)

-- the number that was asked for
asked_is : (f : Form) (asked n : ℕ) (p : Payload) → number_fits f asked n ≡ true → data_of f asked p ≡ data_of f n p
asked_is (Numbers k) asked n p e = refl
asked_is Texts asked n p e = rw (eqb-true n asked e)

content_back : (f : Form) (asked n : ℕ) (p : Payload) → asked < 10000 → number_fits f asked n ≡ true → in_ranges f p ≡ true → read_content f asked (fields (number_part f n ++ data_text f p)) ≡ Some (kept f p)
content_back (Numbers k) asked n p h e r = data_back (Numbers k) p r
content_back Texts asked n p h e r =
    let q = eqb-true n asked e in
    rw (append_assoc (shortest n) (32 ∷ []) (data_text Texts p), fields_cons (shortest n) (data_text Texts p) (shortest_solid n), read_shortest n (omega arith), e) (data_back Texts p r)

data_outcome_back : (d : Data) (asked : ℕ) → asked < 10000 → number_fits (content_of d).form asked (content_of d).number ≡ true → in_ranges (content_of d).form (content_of d).payload ≡ true → read_load_outcome (content_of d).form asked (content_text (content_of d)) ≡ Some (outcome.Data d)
unfolding read_load_outcome
data_outcome_back d asked h e r =
    let c : Content = content_of d in
    rw (no_error c, content_back c.form asked c.number c.payload h e r, (parted d).payload_is, r, asked_is c.form asked c.number c.payload e, (parted d).made)

-- ---- the body

status_outcome_back : (t : Bool) (f : Form) (asked n : ℕ) → n ≤ 99 → cond t (read_status (status_text t n)) (read_load_outcome f asked (status_text t n)) ≡ Some (outcome.Status n)
unfolding status_text read_load_outcome
status_outcome_back true f asked n h = status_back n h
status_outcome_back false f asked n h = status_back n h

outcome_back : (rule : Rule) (asked : ℕ) (o : Outcome) → asked < 10000 → judge_outcome rule asked o ≡ 0 → read_outcome rule asked (outcome_text rule.store o) ≡ Some o
unfolding judge_outcome outcome_text
outcome_back rule asked (outcome.Data d) h e =
    let f = fitting rule asked d e in
    rw (f.loads, ← f.form) (data_outcome_back d asked h (rw f.form f.number) (rw f.form f.range))
outcome_back rule asked (outcome.Status n) h e =
    status_outcome_back rule.store rule.form asked n (ltb-false 99 n (check_passed (ltb 99 n) 12 0 (omega arith) e).0)

status_clean : (t : Bool) (n : ℕ) → Skips is_stray (status_text t n)
unfolding status_text
status_clean true n = two_skips is_stray digit_clean n
status_clean false n = skips_cons is_stray 69 (two_digits n) refl (two_skips is_stray digit_clean n)

part_clean : (f : Form) (n : ℕ) → Skips is_stray (number_part f n)
part_clean (Numbers k) n = λ bs. omega arith
part_clean Texts n = skips_append is_stray (shortest n) (32 ∷ []) (shortest_skips is_stray digit_clean n) (skips_cons is_stray 32 [] refl (λ bs. omega arith))

content_clean : (c : Content) → Skips is_stray (content_text c)
content_clean c =
    skips_append is_stray (number_part c.form c.number) (data_text c.form c.payload) (part_clean c.form c.number)
    (data_clean c.form c.payload)

outcome_clean : (store : Bool) (o : Outcome) → Skips is_stray (outcome_text store o)
unfolding outcome_text
outcome_clean store (outcome.Data d) = content_clean (content_of d)
outcome_clean store (outcome.Status n) = status_clean store n

-- ---- the frame

-- a check that gives its own number, and then another
pub checked_then : (a b : ℕ) → cond (eqb a 0) b a ≡ 0 → (a ≡ 0) × (b ≡ 0)
checked_then a b = go (eqb a 0) refl
  where
    go : (t : Bool) → eqb a 0 ≡ t → cond t b a ≡ 0 → (a ≡ 0) × (b ≡ 0)
    go true q e = (eqb-true a 0 q, e)
    go false q e = absurd (eqb-false a 0 q e)

pub replies_read_back : RepliesReadBack
unfolding write_reply judge_reply read_reply
replies_read_back room st r o e =
    let j = checked_then (judge_asked st r) (judge_outcome (rule_for r) (parts_of r).number o) (check_passed (ltb room 64) 1 _ (omega arith) e).1 in
    let a = asked_ok st r j.0 in
    let l = outcome_length (rule_for r).store o in
    rw (
      e,
      j.0,
      frame_back st (outcome_text (rule_for r).store o) a.0.0 a.0.1 (outcome_clean (rule_for r).store o) l.0 (omega arith),
      eq-eqb st st refl,
      outcome_back (rule_for r) (parts_of r).number o (judged_ok (parts_of r).command (parts_of r).number (parts_of r).payload a.1).0 j.1,
    )
