-- What a command makes of numbers and of texts as its data.
use Prim.Native.Nat.{ℕ}
use mathlib.Core.Path.{◌≡◌, refl, ap, ◌∙◌}
use mathlib.Core.Bool.{Bool, true, false}
use mathlib.Core.List.{List, [], ◌∷◌}
use Rattle.std.specs.Prelude.{Option, None, Some, option_map}
use native.Mathlib.Omega.{arith}
use Rattle.text.specs.Whole.{read_whole}
use Rattle.steps.specs.declared.step.Step.{Step}
use Rattle.steps.specs.Step.{read_step, is_step}
use Rattle.steps.proofs.Back.{read_is_step}
use Rattle.names.specs.declared.command.Command.{Command}
use Rattle.names.specs.declared.command.Command.TheVariants.{Lnt, Snt, Lnd, Snd, Lnl, Snl, Lnib, Lnob, Snob, Lnid, Lnod, Snod, Lnbb, Snbb, Lnbd, Snbd, Lna, Sna}
use Rattle.commands.specs.declared.table.Form.{Form}
use Rattle.commands.specs.declared.table.Form.TheVariants.{Numbers, Texts}
use Rattle.commands.specs.declared.table.Kind.{Kind}
use Rattle.commands.specs.declared.table.Rule.{Rule}
use Rattle.commands.specs.declared.request.Row.{Row}
use Rattle.commands.specs.declared.request.Payload.{Payload}
use Rattle.commands.specs.declared.request.Payload.TheVariants as payload
use Rattle.commands.specs.Table.{rule_of}
use Rattle.commands.specs.Request.{builds}
use Rattle.numbers.specs.Numbers.{read_numbers}
use Rattle.numbers.proofs.Where.{no_some, false_true}
use Rattle.data.specs.Ranges.{judge}
use Rattle.bodies.specs.Body.{data_shape, numbered, given, read_shape}

-- ---- numbers: an LN does not look at them

pub given_judged : (rule : Rule) (n : ℕ) (r : Row) → judge rule n (payload.Numbers r) ≡ judge rule n (given rule.store r)
unfolding judge
given_judged rule n r = go rule.store refl
  where
    go : (t : Bool) → rule.store ≡ t → judge rule n (payload.Numbers r) ≡ judge rule n (given rule.store r)
    go true e = rw e
    go false e = rw e

pub given_built : (c : Command) (n : ℕ) (r : Row) → builds c n (payload.Numbers r) ≡ builds c n (given (rule_of c).store r)
given_built Lnt n r = refl
given_built Snt n r = refl
given_built Lnd n r = refl
given_built Snd n r = refl
given_built Lnl n r = refl
given_built Snl n r = refl
given_built Lnib n r = refl
given_built Lnob n r = refl
given_built Snob n r = refl
given_built Lnid n r = refl
given_built Lnod n r = refl
given_built Snod n r = refl
given_built Lnbb n r = refl
given_built Snbb n r = refl
given_built Lnbd n r = refl
given_built Snbd n r = refl
given_built Lna n r = refl
given_built Sna n r = refl

-- ---- texts: they are a step, and the command is SNA

no_texts : {A : Type 0} {k : Kind} → Numbers k ≡ Texts → A
no_texts e = let z : ◌≡◌ {A = ℕ} 0 1 = cc in absurd (omega arith)

stores_texts : (c : Command) → (rule_of c).store ≡ true → (rule_of c).form ≡ Texts → c ≡ Sna
stores_texts Lnt e f = false_true e
stores_texts Snt e f = no_texts f
stores_texts Lnd e f = false_true e
stores_texts Snd e f = no_texts f
stores_texts Lnl e f = false_true e
stores_texts Snl e f = no_texts f
stores_texts Lnib e f = false_true e
stores_texts Lnob e f = false_true e
stores_texts Snob e f = no_texts f
stores_texts Lnid e f = false_true e
stores_texts Lnod e f = false_true e
stores_texts Snod e f = no_texts f
stores_texts Lnbb e f = false_true e
stores_texts Snbb e f = no_texts f
stores_texts Lnbd e f = false_true e
stores_texts Snbd e f = no_texts f
stores_texts Lna e f = false_true e
stores_texts Sna e f = refl

texts_read : (t : Bool) (f : Form) (fs : List (List ℕ)) {s : Step} → data_shape t f fs ≡ Some (payload.Texts s) → ((t ≡ true) × (f ≡ Texts)) × (is_step s ≡ true)
texts_read true (Numbers k) fs {s} e = go (read_numbers k fs) e
  where
    go : (o : Option Row) → option_map payload.Numbers o ≡ Some (payload.Texts s) → ((true ≡ true) × (Numbers k ≡ Texts)) × (is_step s ≡ true)
    go (Some r) d = let z : ◌≡◌ {A = ℕ} 0 1 = cc in absurd (omega arith)
    go None d = no_some d
texts_read true Texts fs {s} e = go (read_step fs) refl e
  where
    go : (o : Option Step) → read_step fs ≡ o → option_map payload.Texts o ≡ Some (payload.Texts s) → ((true ≡ true) × (Texts ≡ Texts)) × (is_step s ≡ true)
    go (Some q) d w = let same : q ≡ s = cc in ((refl, refl), read_is_step fs s (d ∙ ap Some same))
    go None d w = no_some w
texts_read false f [] e = let z : ◌≡◌ {A = ℕ} 0 1 = cc in absurd (omega arith)
texts_read false f (g ∷ fs) e = no_some e

pub both : (o : Option ℕ) (v : Option Payload) {p : ℕ × Payload} → numbered o v ≡ Some p → (o ≡ Some p.0) × (v ≡ Some p.1)
both (Some n) (Some r) e = (ap Some cc, ap Some cc)
both (Some n) None e = no_some e
both None v e = no_some e

pub reads_texts : (c : Command) (fs : List (List ℕ)) {n : ℕ} {s : Step} → read_shape (rule_of c) fs ≡ Some (n, payload.Texts s) → (c ≡ Sna) × (is_step s ≡ true)
unfolding read_shape
reads_texts c [] e = no_some e
reads_texts c (f ∷ fs) e =
    let w = texts_read (rule_of c).store (rule_of c).form fs (both (read_whole f) (data_shape (rule_of c).store (rule_of c).form fs) e).1 in
    (stores_texts c w.0.0 w.0.1, w.1)
