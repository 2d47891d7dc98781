-- Checks that pass, what data that answer a command are, and what a writer answers.
use Prim.Native.Nat.{ℕ, zero, suc, ◌≤◌}
use mathlib.Core.Path.{◌≡◌, refl, sym, ap, ◌∙◌}
use mathlib.Core.Bool.{Bool, true, false, cond, ◌&&◌, ◌||◌}
use mathlib.Core.List.{List, [], ◌∷◌, ◌++◌}
use native.Mathlib.Omega.{arith}
use borrow.Author.Tests.{eqb-true}
use lib.Dec.{eqb}
use lib.ListN.{length}
use Rattle.text.specs.Put.{Put, PutAt}
use Rattle.text.specs.Whole.{shortest}
use Rattle.text.specs.declared.put.Cursor.{Cursor}
use Rattle.frame.specs.Checksum.{lrc_of}
use Rattle.frame.specs.Frame.{opening, closing, frame_of}
use Rattle.frame.proofs.Writing.{framed}
use Rattle.frame.proofs.Short.{frame_fits}
use Rattle.commands.specs.declared.table.Kind.TheVariants.{Timer, Register, Row, Signal, Port}
use Rattle.commands.specs.declared.table.Form.{Form}
use Rattle.commands.specs.declared.table.Form.TheVariants.{Numbers, Texts}
use Rattle.commands.specs.declared.table.Rule.{Rule}
use Rattle.replies.specs.declared.reply.Content.{Content}
use Rattle.replies.specs.declared.reply.Data.{Data}
use Rattle.replies.specs.declared.reply.Outcome.TheVariants as outcome
use Rattle.data.specs.Ranges.{in_ranges}
use Rattle.replies.specs.Reply.{content_of}
use Rattle.reply_writer.specs.Writer.{code_of, number_fits, content_fits, judge_outcome}
use Rattle.harl.specs.Message.{Wrote}

-- ---- refusal numbers, which are 0 where a check passes

-- a check with a number of its own, and then the rest
pub check_passed : (t : Bool) (k m : ℕ) → 1 ≤ k → cond t k m ≡ 0 → (t ≡ false) × (m ≡ 0)
check_passed true k m h e = absurd (omega arith)
check_passed false k m h e = (refl, e)

pub neither : (s t : Bool) → s || t ≡ false → (s ≡ false) × (t ≡ false)
neither true t e = let z : ◌≡◌ {A = ℕ} 0 1 = cc in absurd (omega arith)
neither false t e = (refl, e)

-- ---- data that answer a command

-- a form is known by its number
pub form_is : (f g : Form) → code_of f ≡ code_of g → f ≡ g
form_is f g e = sym (back f) ∙ ap form_of e ∙ back g
  where
    form_of : ℕ → Form
    form_of zero = Numbers Timer
    form_of (suc zero) = Numbers Register
    form_of (suc (suc zero)) = Numbers Row
    form_of (suc (suc (suc zero))) = Numbers Signal
    form_of (suc (suc (suc (suc zero)))) = Numbers Port
    form_of (suc (suc (suc (suc (suc n))))) = Texts

    back : (f : Form) → form_of (code_of f) ≡ f
    back (Numbers Timer) = refl
    back (Numbers Register) = refl
    back (Numbers Row) = refl
    back (Numbers Signal) = refl
    back (Numbers Port) = refl
    back Texts = refl

-- what data meet that may reply to a request for a number: they answer an LN of their form, and are in range
pub record Fitting (rule : Rule) (asked : ℕ) (content : Content) : Type 0 where
  pub loads : rule.store ≡ false
  pub form : content.form ≡ rule.form
  pub number : number_fits rule.form asked content.number ≡ true
  pub range : in_ranges rule.form content.payload ≡ true

pub fitting : (rule : Rule) (asked : ℕ) (d : Data) → judge_outcome rule asked (outcome.Data d) ≡ 0 → Fitting rule asked (content_of d)
unfolding judge_outcome content_fits
fitting rule asked d = go rule.store (eqb (code_of (content_of d).form) (code_of rule.form)) (number_fits rule.form asked (content_of d).number) (in_ranges rule.form (content_of d).payload) refl refl refl refl
  where
    go : (s t u v : Bool) → rule.store ≡ s → eqb (code_of (content_of d).form) (code_of rule.form) ≡ t → number_fits rule.form asked (content_of d).number ≡ u → in_ranges rule.form (content_of d).payload ≡ v → ◌≡◌ {A = ℕ} (cond (cond s false (t && (u && v))) 0 12) 0 → Fitting rule asked (content_of d)
    go true t u v p q r w e = absurd (omega arith)
    go false false u v p q r w e = absurd (omega arith)
    go false true false v p q r w e = absurd (omega arith)
    go false true true false p q r w e = absurd (omega arith)
    go false true true true p q r w e = record { loads = p; form = form_is _ _ (eqb-true _ _ q); number = r; range = w }

-- ---- what a writer answers

-- a frame of a body that is no longer than 56 bytes, in an area of 64 bytes at least
pub wrote_frame :
    (st : ℕ) (body : List ℕ) {xs ys zs us : List ℕ} {a e : Cursor} {r : ℕ} →
    64 ≤ length xs →
    length body ≤ 56 →
    PutAt xs 0 (opening st) a.at ys × (a.sum ≡ lrc_of (shortest st ++ (32 ∷ []))) →
    Put ys a body e zs →
    ((t : List ℕ) → e.sum ≡ lrc_of t → PutAt zs e.at (closing t) r us) →
    Wrote (record { number = 0; position = 0; bytes = frame_of st body }) xs (record { number = 0; length = r; position = 0 }) us
wrote_frame st body room short p q c =
    let w = framed st p q c in
    record {
      number = refl;
      position = refl;
      length_is = omega (arith, w.next);
      fits = omega (arith, frame_fits st body short);
      area = w.area;
    }
