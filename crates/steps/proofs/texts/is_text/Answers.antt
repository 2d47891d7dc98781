use Prim.Native.Nat.{ℕ, ◌-◌}
use mathlib.Core.Path.{◌≡◌, sym, ap, ◌∙◌}
use native.Mathlib.Omega.{arith}
use Rattle.steps.specs.Text.{only_chars}
use Rattle.steps.proofs.Laws.{only_none, text_some}
use Rattle.steps.proofs.texts.is_text.Goals as goal

pub returns : goal.returns
returns c =
    let z : 8 - c.loop.counter ≡ 0 = omega arith in
    sym (text_some c.args.t.0 c.if-rest-eq0.false ∙ c.loop.invariant ∙ ap (λ (k : ℕ). only_chars k c.loop.rest) z ∙ only_none c.loop.rest)
