use Prim.Native.Nat.{ℕ}
use mathlib.Core.Path.{◌≡◌, refl, sym, ap, ◌∙◌}
use mathlib.Core.Bool.{Bool, true, false, ◌&&◌}
use mathlib.Core.List.{List, [], ◌∷◌}
use Rattle.std.specs.Prelude.{Some}
use lib.Dec.{eqb}
use lib.ListN.{get_or, take}
use lib.Pointwise.{pointwise, bytes_decides}
use Rattle.text.specs.Whole.{read_whole, digits_onto}
use Rattle.commands.specs.declared.table.Form.{Form}
use Rattle.replies.specs.declared.reply.Outcome.TheVariants as outcome
use Rattle.replies.specs.Reply.{unknown_text}
use Rattle.reply_reader.specs.Reader.{read_status, read_load_outcome}
use Rattle.reply_reader.proofs.reader.Expected.read.Goals as goal

-- "E09" is the status 9
unknown : (f : Form) (asked : ℕ) → read_load_outcome f asked unknown_text ≡ Some (outcome.Status 9)
unfolding read_load_outcome read_status read_whole digits_onto
unknown f asked = refl

-- whether the first byte is an "E"
first_e : (s : List ℕ) {t : Bool} → pointwise eqb (take 1 s) (69 ∷ []) ≡ t → eqb (get_or s 0 0) 69 ≡ t
first_e [] h = h
first_e (b ∷ s) h = go (eqb b 69) h
  where
    go : (u : Bool) {t : Bool} → (u && true) ≡ t → u ≡ t
    go true h = h
    go false h = h

pub returns-then-eq : goal.returns-then-eq
returns-then-eq c =
    sym (ap (read_load_outcome c.args.self.form c.args.self.asked) ((bytes_decides c.args.body.now _).0 (sym c.eq.ensures ∙ c.if-eq.true) ∙ c.as_slice.ensures) ∙ unknown c.args.self.form c.args.self.asked)

pub returns-in-Some : goal.returns-in-Some
unfolding read_load_outcome
returns-in-Some c =
    rw (first_e c.args.body.now c.in-Some.ensures.cases.0, ← c.in-Some.ensures.cases.1) c.read_status.ensures

-- the data decide
pub returns-in-Numbers : goal.returns-in-Numbers
unfolding read_load_outcome
returns-in-Numbers c =
    let d = rw (c.front.ensures.text, c.front.ensures.first) at c.read_content.ensures in
    rw (first_e c.args.body.now c.in_default.ensures.cases) (d ∙ rw c.in-Numbers.is)

pub returns-in-Texts : goal.returns-in-Texts
unfolding read_load_outcome
returns-in-Texts c =
    rw (first_e c.args.body.now c.in_default.ensures.cases, c.in-Texts.is) c.read_asked.ensures
