use Prim.Native.Nat.{ℕ, suc, ◌<◌}
use mathlib.Core.Path.{◌≡◌, refl, sym, ◌∙◌}
use mathlib.Core.Bool.{Bool, true, false, cond}
use mathlib.Core.List.{List, [], ◌∷◌}
use Rattle.std.specs.Prelude.{None, Some}
use native.Mathlib.Omega.{arith}
use borrow.Author.Tests.{eq-eqb, ne_eqb}
use lib.Dec.{eqb}
use lib.ListN.{length}
use lib.Pointwise.{bytes_decides}
use Rattle.text.specs.Whole.{is_digit, digits_onto, read_whole, digit_count, digit_value}
use Rattle.text.proofs.Decimals.{whole_below}
use Rattle.replies.specs.declared.reply.Outcome.TheVariants as outcome
use Rattle.replies.specs.Reply.{done_text}
use Rattle.reply_reader.specs.Reader.{read_status}
use Rattle.reply_reader.proofs.reader.read_status.Goals as goal

-- two bytes are a number where both are digits
whole_is : (s : List ℕ) → length s ≡ 2 → read_whole s ≡ cond (eqb (digit_count 4 s) 2) (Some (digit_value 4 0 s)) None
unfolding read_whole digits_onto digit_count digit_value
whole_is [] h = absurd (omega arith)
whole_is (a ∷ []) h = absurd (omega arith)
whole_is (a ∷ b ∷ c ∷ s) h = absurd (omega arith)
whole_is (a ∷ b ∷ []) h = go (is_digit a) (is_digit b) _ _
  where
    go : (t u : Bool) (v w : ℕ) → cond t (cond u (Some v) None) None ≡ cond (eqb (cond t (suc (cond u 1 0)) 0) 2) (Some (cond t (cond u v w) 0)) None
    go true true v w = refl
    go true false v w = refl
    go false u v w = refl

module _ (s : List ℕ) (h : length s ≡ 2) where
  other : (digit_count 4 s ≡ 2 → ⊥) → read_status s ≡ None
  unfolding read_status
  other n = rw (eq-eqb _ _ h, whole_is s h, ne_eqb _ _ n)

  module _ (n : digit_count 4 s ≡ 2) where
    number : read_whole s ≡ Some (digit_value 4 0 s)
    number = whole_is s h ∙ rw (eq-eqb _ _ n)

    -- two digits are below 100
    small : digit_value 4 0 s < 100
    small = rw (h, number) at (whole_below s)

    status : read_status s ≡ Some (outcome.Status (digit_value 4 0 s))
    unfolding read_status
    status = rw (eq-eqb _ _ h, number)

-- "00" is the status 0
done : read_status done_text ≡ Some (outcome.Status 0)
unfolding read_status read_whole digits_onto
done = refl

pub returns-then-eq : goal.returns-then-eq
returns-then-eq c =
    rw ((bytes_decides c.args.s.now _).0 (sym c.eq.ensures ∙ c.if-eq.true) ∙ c.as_slice.ensures, done)

pub returns-then-s-ne2 : goal.returns-then-s-ne2
unfolding read_status
returns-then-s-ne2 c =
    rw (ne_eqb _ _ c.if-s-ne2.true)

-- c.read_digits-digits.ensures.end_value has the end, and the value
pub returns-then-digits-ne2 : goal.returns-then-digits-ne2
returns-then-digits-ne2 c =
    let d = rw (c.front.ensures.text, c.front.ensures.first) at c.read_digits-digits.ensures.end_value in
    sym (other c.args.s.now c.if-s-ne2.false (λ z. c.if-digits-ne2.true (omega (arith, d.0, z))))

pub overflow_cast-result : goal.overflow_cast-result
overflow_cast-result c =
    let d = rw (c.front.ensures.text, c.front.ensures.first) at c.read_digits-digits.ensures.end_value in
    record { fits = omega (arith, d.1, small c.args.s.now c.if-s-ne2.false (omega (arith, d.0, c.if-digits-ne2.false))) }

pub returns : goal.returns
returns c =
    let d = rw (c.front.ensures.text, c.front.ensures.first) at c.read_digits-digits.ensures.end_value in
    rw d.1 (sym (status c.args.s.now c.if-s-ne2.false (omega (arith, d.0, c.if-digits-ne2.false))))
